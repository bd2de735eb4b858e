-- What is promised of every run, whatever the programs do and however the keeper works.
use Rattle.std.specs.Prelude.{◌≡◌, ℕ, ◌+◌, ◌*◌, ◌<◌, ◌≤◌, true, false, List, [], ◌∷◌, ◌++◌, map, Some, None, Ok, Err, Option, Result, ◌≢◌}
use Rattle.keeper.specs.declared.version.Declared.{Declared}
use Rattle.keeper.specs.declared.outcome.Outcome.{Outcome}
use Rattle.keeper.specs.declared.outcome.Outcome.TheVariants.{Opened, Accepted, Stale, HandedOut}
use Rattle.keeper.specs.declared.fault.Refusal.TheVariants.{Damaged}
use Rattle.keeper.specs.declared.fault.Fault.{Fault}
use Rattle.keeper.specs.Stages.{has, engaged}
use Rattle.keeper.specs.declared.version.Version.{Version}
use Rattle.keeper.specs.Meaning.{stage_of}
use Rattle.cells_theory.specs.declared.shown.Shown.{Shown}
use Rattle.cells_theory.specs.Memory.{count_at}
use Rattle.cells_theory.specs.Trees.{Tree, empty, number, node}
use Rattle.cells_theory.specs.Sound.{Used}
use Rattle.cells_theory.specs.Promises.{shown_tree, Reachable}
use Rattle.exchange_theory.specs.declared.calls.Call.{Call}
use Rattle.exchange_theory.specs.declared.calls.Call.TheVariants.{Step, Look}
use Rattle.exchange_theory.specs.declared.calls.Answer.{Answer}
use Rattle.exchange_theory.specs.declared.calls.Answer.TheVariants as answer
use Rattle.exchange_theory.specs.declared.row.Row.{Row}
use Rattle.exchange_theory.specs.World.{World, memory_of}
use Rattle.exchange_theory.specs.Story.{Story, Task, resting, opening, publishing, closing}
use Rattle.exchange_theory.specs.History.{Event, event, Reached, story}

-- P holds of each event of the run and of what the run before it tells
abbrev pub Always : {T : Type 0} → (Event T → Story T → Type 0) → T → List (Event T) → Type 0
Always P leaf [] = Unit {0}
Always P leaf (e ∷ h) = P e (story leaf h) × Always P leaf h

-- program p made a step, which came to o
pub record Came {T : Type 0} (e : Event T) (p : ℕ) (o : Outcome) : Type 0 where
  pub call : e.call ≡ Step p
  pub answer : e.answer ≡ Ok (answer.Stepped o)

-- an open that ended on s: s was current at the call of open, or at a moment since then
abbrev pub OpenedWasCurrent : {T : Type 0} → Event T → Story T → Type 0
OpenedWasCurrent e S = (p s : ℕ) → Came e p (Opened s) → (S.since p ≤ s) × (s ≤ S.current)

-- a tree and what a look at it shows: its leaf, and of each field nothing, the number, or that it is a cell
abbrev pub SeenAs : {T : Type 0} → Tree T → Shown T → Type 0
SeenAs empty s = ⊥
SeenAs (number n) s = ⊥
SeenAs (node t x₀ x₁ x₂ x₃) s = s ≡ record { leaf = t; parts = shown_tree x₀ ∷ shown_tree x₁ ∷ shown_tree x₂ ∷ shown_tree x₃ ∷ [] }

-- a look shows the tree that the run before it gives that place
abbrev pub LookIsTrue : {T : Type 0} → Event T → Story T → Type 0
LookIsTrue {T} e S = (p a : ℕ) (s : Shown T) → e.call ≡ Look p a → e.answer ≡ Ok (answer.Shown s) → SeenAs (S.reading p a) s

-- a serial that is handed out has been replaced, and was not handed out before
abbrev pub HandedOutReplaced : {T : Type 0} → Event T → Story T → Type 0
HandedOutReplaced e S = (p s : ℕ) → Came e p (HandedOut s) → (s < S.current) × (S.gone s ≡ false)

-- how many steps are declared for what a program is about
abbrev pub allowance : Declared → Task → ℕ
allowance d resting = 0
allowance d opening = d.opening
allowance d publishing = d.offering
allowance d closing = d.closing

-- a step is one of the declared ones, the last of an open, a publish or a close too
abbrev pub StepInTime : {T : Type 0} → Declared → Event T → Story T → Type 0
StepInTime d e S = (p : ℕ) (o : Outcome) → Came e p o → S.taken p + 1 ≤ allowance d (S.task p)

-- a publish that ended was accepted where the version opened was the current one just before, and was stale where it was not
pub record PublishDecided {T : Type 0} (e : Event T) (S : Story T) : Type 0 where
  pub accepted : (p t : ℕ) → Came e p (Accepted t) → (S.opened p ≡ Some S.current) × (t ≡ S.current + 1)
  pub stale : (p : ℕ) → Came e p Stale → (s : ℕ) × (S.opened p ≡ Some s) × (s ≢ S.current)

-- no call is refused with 16
abbrev pub NotDamaged : {T : Type 0} → Event T → Story T → Type 0
NotDamaged e S = (f : Fault) → e.answer ≡ Err f → f.refusal ≢ Damaged

-- the cells that places name
abbrev pub cells_in : List (Option ℕ) → List ℕ
cells_in [] = []
cells_in (None ∷ os) = cells_in os
cells_in (Some c ∷ os) = c ∷ cells_in os

-- the cells that the building places of rows name
abbrev pub built_in : List Row → List ℕ
built_in [] = []
built_in (r ∷ rs) = cells_in r.building ++ built_in rs

-- the names by which the outside names cells: the kept roots and the building places
abbrev pub names : {T : Type 0} → World T → List ℕ
names w = map (λ (v : Version). v.root) w.keeper.kept ++ built_in w.rows

-- after the run h from the making's leaf, in the world w that it led to
pub record Promises {T : Type 0} (leaf : T) (h : List (Event T)) (w : World T) : Type 0 where
  -- a version opened was current at the call of open, or since
  pub opened_was_current : Always OpenedWasCurrent leaf h
  -- looks show the trees that were built and published
  pub looks_true : Always LookIsTrue leaf h
  -- a version handed out had been replaced, and is handed out once
  pub handed_out_replaced : Always HandedOutReplaced leaf h
  -- no program has a version that was handed out
  pub handed_out_unused : (p s : ℕ) → has (stage_of w.keeper p) ≡ Some s → (story leaf h).gone s ≡ false
  -- a replaced version that no program has or closes was handed out
  pub unused_handed_out : (s : ℕ) → s < (story leaf h).current → ((p : ℕ) → engaged (stage_of w.keeper p) ≢ Some s) → (story leaf h).gone s ≡ true
  -- a cell is used exactly when it is reachable from a kept root, a building place or a waiting cell
  pub used_reachable : (c : ℕ) → Used (memory_of w) c → Reachable (memory_of w) (names w) c
  pub reachable_used : (c : ℕ) → Reachable (memory_of w) (names w) c → Used (memory_of w) c
  -- opens, publishes and closes end within the declared steps, and one that has not ended has steps left
  pub ended_in_time : Always (StepInTime w.keeper.declared) leaf h
  pub unended_in_time : (p : ℕ) → ((story leaf h).task p ≢ resting) → (story leaf h).taken p < allowance w.keeper.declared ((story leaf h).task p)
  -- a publish is accepted exactly when the version opened is current
  pub accepted_iff_current : Always PublishDecided leaf h
  -- no refusal 16, and no count above its bound
  pub never_damaged : Always NotDamaged leaf h
  pub counts_low : (c : ℕ) → count_at w.cells c ≤ 4 * w.size + (8 * w.programs + (w.programs + 1))
  pub bound_low : 4 * w.size + (8 * w.programs + (w.programs + 1)) ≤ 262217

-- a making that is accepted begins a run, which keeps what is promised
abbrev pub BeginsRun : {X T : Type 0} → T → (X → World T) → Result X Fault → Type 0
BeginsRun leaf seen (Ok x) = Reached leaf [] (seen x) × Promises leaf [] (seen x)
BeginsRun leaf seen (Err f) = Unit {0}

-- a call that led from w to v carries on every run that led to w, and keeps what is promised
abbrev pub GoesOn : {T : Type 0} → Call T → Result (Answer T) Fault → World T → World T → Type 0
GoesOn {T} c r w v = (leaf : T) (h : List (Event T)) → Reached leaf h w → Reached leaf (event c r ∷ h) v × Promises leaf (event c r ∷ h) v
