-- The calls that turn to the keeper: open, publish, close and step.
use Rattle.std.specs.Prelude.{◌≡◌, ℕ, true, Some, None, Ok, Option, Result, nat_lt}
use Rattle.keeper.specs.declared.outcome.Outcome.{Outcome}
use Rattle.keeper.specs.declared.outcome.Outcome.TheVariants.{Accepted, HandedOut}
use Rattle.keeper.specs.declared.fault.Fault.{Fault}
use Rattle.keeper.specs.Effects.{open_fault, publish_fault, close_fault, step_fault, root_answer, OpenDone, PublishDone, CloseDone, StepDone}
use Rattle.cells_theory.specs.LetGo.{let_go}
use Rattle.exchange_theory.specs.declared.column.Column.TheVariants as column
use Rattle.exchange_theory.specs.World.{World, row_at, building_at, offered_at, closed_at, memory_of, keeping, building, storing, offering, closing, let_go_places}
use Rattle.exchange_theory.specs.Order.{passing, fault_of, filled, admits, Turns}

-- open: refused as every call is, and as the keeper refuses
abbrev pub open_refusal : {T : Type 0} → World T → ℕ → Option Fault
open_refusal w p = admits w p true column.Open (open_fault w.keeper p)

-- the keeper's open begins; nothing else changes
pub record OpenBegins {T : Type 0} (p : ℕ) (w v : World T) : Type 0 where
  pub keeper : OpenDone w.keeper p v.keeper
  pub after : v ≡ keeping v.keeper w

abbrev pub Opens : {T : Type 0} → ℕ → Result (Unit {0}) Fault → World T → World T → Type 0
Opens p r w v = Turns (open_refusal w p) w v (λ _. OpenBegins p w v) r

-- publish of building place b: 3 for b, 12 where b is empty, and as the keeper refuses (15)
abbrev pub publish_refusal : {T : Type 0} → World T → ℕ → ℕ → Option Fault
publish_refusal w p b = admits w p (nat_lt b 8) column.Publish (filled (building_at w p b) (publish_fault w.keeper p))

-- the keeper's publish begins with the cell in b, and b is remembered
pub record PublishBegins {T : Type 0} (p b : ℕ) (w v : World T) : Type 0 where
  pub cell : ℕ
  pub named : building_at w p b ≡ Some cell
  pub keeper : PublishDone w.keeper p cell v.keeper
  pub after : v ≡ offering p b (keeping v.keeper w)

abbrev pub Publishes : {T : Type 0} → ℕ → ℕ → Result (Unit {0}) Fault → World T → World T → Type 0
Publishes p b r w v = Turns (publish_refusal w p b) w v (λ _. PublishBegins p b w v) r

-- close: the root of the version is asked for, then the keeper's close is called; as these refuse
abbrev pub close_refusal : {T : Type 0} → World T → ℕ → Option Fault
close_refusal w p = admits w p true column.Close (passing (fault_of (root_answer w.keeper p)) (close_fault w.keeper p))

-- the reading places of p become empty; what its building places 0 to 7 name is let go in that order, and they become empty; the root
-- of the version is remembered; the keeper's close begins
pub record CloseBegins {T : Type 0} (p : ℕ) (w v : World T) : Type 0 where
  pub root : ℕ
  pub had : root_answer w.keeper p ≡ Ok root
  pub keeper : CloseDone w.keeper p v.keeper
  pub after : v ≡ closing p root (storing (let_go_places (row_at w p).building (memory_of w)) (keeping v.keeper w))

abbrev pub Closes : {T : Type 0} → ℕ → Result (Unit {0}) Fault → World T → World T → Type 0
Closes p r w v = Turns (close_refusal w p) w v (λ _. CloseBegins p w v) r

-- step: as the keeper refuses
abbrev pub step_refusal : {T : Type 0} → World T → ℕ → Option Fault
step_refusal w p = admits w p true column.Step (step_fault w.keeper p)

-- what the answer of a keeper's step brings about: where an offer was accepted the offered place becomes empty, and its count passes to
-- the version; where a version was handed out the remembered root is let go; else nothing
abbrev pub settles : {T : Type 0} → Outcome → ℕ → World T → World T
settles (Accepted s) p w = building p (offered_at w p) None w
settles (HandedOut s) p w = storing (let_go (closed_at w p) (memory_of w)) w
settles o p w = w

pub record StepTakes {T : Type 0} (p : ℕ) (o : Outcome) (w v : World T) : Type 0 where
  pub keeper : StepDone w.keeper p v.keeper o
  pub after : v ≡ settles o p (keeping v.keeper w)

abbrev pub Steps : {T : Type 0} → ℕ → Result Outcome Fault → World T → World T → Type 0
Steps p r w v = Turns (step_refusal w p) w v (λ o. StepTakes p o w v) r
