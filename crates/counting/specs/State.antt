-- The state of the counting keeper, and what always holds of it.
use Rattle.std.specs.Prelude.{◌≡◌, ℕ, ◌+◌, ◌<◌, ◌≤◌, Bool, true, false, cond, List, length, take, Some, None, ◌==◌, ◌≢◌, nat_le, nat_lt, slice_index_or, Option}
use Rattle.std.specs.List.{position_or_len}
use Rattle.keeper.specs.declared.version.Version.{Version}
use Rattle.keeper.specs.declared.stage.Stage.{Stage}
use Rattle.keeper.specs.declared.stage.Stage.TheVariants.{Idle, Opening, Open, Offering, Offered, Closing}
use Rattle.keeper.specs.Totals.{total}
use Rattle.keeper.specs.Stages.{uses}
use Rattle.keeper.specs.Meaning.{is_serial, same}
use Rattle.counting.specs.declared.rows.Row.{Row}

-- a row that holds v, which so many programs have or are closing
abbrev pub taken : Version → ℕ → Option Row
taken v n = Some (record { version = v; users = n })

-- f of the version that a row holds, and 0 of an empty row
abbrev pub on_row : (Version → ℕ) → Option Row → ℕ
on_row f None = 0
on_row f (Some row) = f row.version

-- the programs counted in a row that holds serial s
abbrev pub used_by : ℕ → Option Row → ℕ
used_by s None = 0
used_by s (Some row) = cond (s == row.version.serial) row.users 0

abbrev pub holds : ℕ → Option Row → Bool
holds s None = false
holds s (Some row) = s == row.version.serial

abbrev pub empty : Option Row → Bool
empty None = true
empty (Some row) = false

-- the index of the first element that passes, or the length
abbrev pub first : {A : Type 0} → (A → Bool) → List A → ℕ
first t xs = position_or_len t xs

-- what a stage says of serials: none is bound, opens began no later than now, offers are over serials below the last
abbrev pub steady : ℕ → ℕ → Stage → Bool
steady c l Idle = true
steady c l (Opening since None) = nat_le since c
steady c l (Opening since (Some b)) = false
steady c l (Open s) = true
steady c l (Offering r s) = nat_lt s l
steady c l (Offered s) = true
steady c l (Closing s) = true

pub record State : Type 0 where
  pub programs : ℕ
  pub last : ℕ
  pub current : Version
  pub rows : List (Option Row)
  pub stages : List Stage

-- of fixed arrays the first rows, one more than the programs, and the first stages count
abbrev pub view : ℕ → ℕ → Version → List (Option Row) → List Stage → State
view p l c rows stages = record { programs = p; last = l; current = c; rows = take (p + 1) rows; stages = take p stages }

-- What always holds, in three products: antt sees of small products, and not of a record, that they have one proof at most.
-- At most 8 programs, one row more, a stage for each; the current serial is at most the last, which leaves room in 32 bits.
abbrev pub Sized : State → Type 0
Sized v =
    (v.programs ≤ 8) × (length v.rows ≡ v.programs + 1) × (length v.stages ≡ v.programs)
    × (v.last ≤ 4000000000) × (v.current.serial ≤ v.last)

-- Some row holds the current version, no two rows hold one serial, and none a later one than the current.
abbrev pub Filled : State → Type 0
Filled v =
    (0 < total (on_row (same v.current)) v.rows)
    × ((s : ℕ) → total (on_row (is_serial s)) v.rows ≤ 1)
    × ((s : ℕ) → v.current.serial < s → total (on_row (is_serial s)) v.rows ≡ 0)

-- A row counts the programs that have its serial or are closing it, and they use no other serial;
-- a row that does not hold the current serial counts some program; every stage is steady.
abbrev pub Counted : State → Type 0
Counted v =
    ((s : ℕ) → total (used_by s) v.rows ≡ total (uses s) v.stages)
    × ((s : ℕ) → (s ≢ v.current.serial) → total (on_row (is_serial s)) v.rows ≤ total (used_by s) v.rows)
    × ((p : ℕ) → steady v.current.serial v.last (slice_index_or v.stages p Idle) ≡ true)
