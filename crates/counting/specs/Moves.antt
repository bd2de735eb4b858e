-- What each call does to the counting keeper's state, exactly, and what that state means.
use Rattle.std.specs.Prelude.{ℕ, ◌+◌, ◌-◌, Bool, true, false, cond, not, ◌&&◌, List, [], ◌∷◌, map, replicate, ◌==◌, slice_index_or, slice_set, Option, None, Some}
use Rattle.keeper.specs.declared.version.Version.{Version}
use Rattle.keeper.specs.declared.stage.Stage.{Stage}
use Rattle.keeper.specs.declared.stage.Stage.TheVariants.{Idle, Opening, Open, Offering, Offered, Closing}
use Rattle.keeper.specs.declared.outcome.Outcome.{Outcome}
use Rattle.keeper.specs.declared.outcome.Outcome.TheVariants.{GoesOn, Opened, Accepted, Stale, Nothing, HandedOut}
use Rattle.keeper.specs.Meaning.{Meaning, version}
use Rattle.counting.specs.declared.rows.Row.{Row}
use Rattle.counting.specs.State.{State, holds, empty, first, taken}

-- the versions that the rows hold
abbrev pub kept_of : List (Option Row) → List Version
kept_of [] = []
kept_of (None ∷ rs) = kept_of rs
kept_of (Some row ∷ rs) = row.version ∷ kept_of rs

-- each operation ends in its first step
abbrev pub pace : Stage → ℕ
pace Idle = 0
pace (Opening since bound) = 1
pace (Open s) = 0
pace (Offering r s) = 1
pace (Offered s) = 0
pace (Closing s) = 1

abbrev pub meaning_of : State → Meaning
meaning_of v = record {
  programs = v.programs;
  last = v.last;
  current = v.current;
  kept = kept_of v.rows;
  stages = v.stages;
  left = map pace v.stages;
  declared = record { opening = 1; offering = 1; closing = 1 };
}

-- just made
abbrev pub fresh : ℕ → ℕ → State
fresh p l = record {
  programs = p;
  last = l;
  current = version 0 0;
  rows = taken (version 0 0) 0 ∷ replicate p None;
  stages = replicate p Idle;
}

abbrev pub count : Option Row → ℕ
count None = 0
count (Some row) = row.users

abbrev pub root_in : Option Row → ℕ
root_in None = 0
root_in (Some row) = row.version.root

abbrev pub raised : Option Row → Option Row
raised None = None
raised (Some row) = taken row.version (row.users + 1)

abbrev pub lowered : Option Row → Option Row
lowered None = None
lowered (Some row) = taken row.version (row.users - 1)

abbrev pub stage_at : State → ℕ → Stage
stage_at v p = slice_index_or v.stages p Idle

abbrev pub row_at : State → ℕ → Option Row
row_at v i = slice_index_or v.rows i None

abbrev pub put : State → ℕ → Stage → State
put v p st = record {
  programs = v.programs;
  last = v.last;
  current = v.current;
  rows = v.rows;
  stages = slice_set v.stages p st;
}

-- program p moves to a stage, and row i becomes r
abbrev pub both : State → ℕ → Stage → ℕ → Option Row → State
both v p st i r = record {
  programs = v.programs;
  last = v.last;
  current = v.current;
  rows = slice_set v.rows i r;
  stages = slice_set v.stages p st;
}

-- the row of a serial
abbrev pub place : State → ℕ → ℕ
place v s = first (holds s) v.rows

abbrev pub opening : Stage → Bool
opening Idle = false
opening (Opening since bound) = true
opening (Open s) = false
opening (Offering r s) = false
opening (Offered s) = false
opening (Closing s) = false

-- an open ends on the current version, whose row counts one more
abbrev pub open_ends : State → ℕ → State
open_ends v p = let i = place v v.current.serial in both v p (Open v.current.serial) i (raised (row_at v i))

-- an accepted publish fills the first empty row, with none
abbrev pub accepts : State → ℕ → ℕ → ℕ → State
accepts v p r s = record {
  programs = v.programs;
  last = v.last;
  current = version (s + 1) r;
  rows = slice_set v.rows (first empty v.rows) (taken (version (s + 1) r) 0);
  stages = slice_set v.stages p (Offered s);
}

abbrev pub offer_ends : State → ℕ → ℕ → ℕ → State
offer_ends v p r s = cond (s == v.current.serial) (accepts v p r s) (put v p (Offered s))

abbrev pub offer_answers : State → ℕ → Outcome
offer_answers v s = cond (s == v.current.serial) (Accepted (s + 1)) Stale

-- whether a close of s hands it out: none is left, and it is not current
abbrev pub last_one : State → ℕ → Bool
last_one v s = count (row_at v (place v s)) == 1 && not (s == v.current.serial)

abbrev pub close_ends : State → ℕ → ℕ → State
close_ends v p s = let i = place v s in both v p Idle i (cond (last_one v s) None (lowered (row_at v i)))

abbrev pub close_answers : State → ℕ → Outcome
close_answers v s = cond (last_one v s) (HandedOut s) Nothing

-- a step of program p at a stage
abbrev pub stepped : State → ℕ → Stage → State
stepped v p Idle = v
stepped v p (Opening since bound) = open_ends v p
stepped v p (Open s) = v
stepped v p (Offering r s) = offer_ends v p r s
stepped v p (Offered s) = v
stepped v p (Closing s) = close_ends v p s

abbrev pub answered : State → Stage → Outcome
answered v Idle = GoesOn
answered v (Opening since bound) = Opened v.current.serial
answered v (Open s) = GoesOn
answered v (Offering r s) = offer_answers v s
answered v (Offered s) = GoesOn
answered v (Closing s) = close_answers v s
