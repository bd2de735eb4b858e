-- Runs: the making's leaf, and the calls with their answers, the latest first.
use Rattle.std.specs.Prelude.{List, [], ◌∷◌, Result}
use Rattle.keeper.specs.declared.fault.Fault.{Fault}
use Rattle.keeper.specs.Meaning.{Laws}
use Rattle.exchange_theory.specs.declared.calls.Call.{Call}
use Rattle.exchange_theory.specs.declared.calls.Answer.{Answer}
use Rattle.exchange_theory.specs.World.{World}
use Rattle.exchange_theory.specs.Did.{Did}
use Rattle.exchange_theory.specs.Make.{Fresh}
use Rattle.exchange_theory.specs.Story.{Story, start, tell}

-- a call with its answer, refused or not
pub record Event (T : Type 0) : Type 0 where
  pub call : Call T
  pub answer : Result (Answer T) Fault

abbrev pub event : {T : Type 0} → Call T → Result (Answer T) Fault → Event T
event c r = record { call = c; answer = r }

-- the run led to the world: the making to a new one, and each call from one world to the next. The keeper's laws hold at every moment
pub data Reached {T : Type 0} (leaf : T) : List (Event T) → World T → Type 0 where
  made : {w : World T} (ls : List T) → Fresh leaf ls w → Laws w.keeper → Reached leaf [] w
  after : {h : List (Event T)} {w v : World T} (c : Call T) (r : Result (Answer T) Fault)
      → Reached leaf h w → Did c r w v → Laws v.keeper → Reached leaf (event c r ∷ h) v

-- what a run tells
abbrev pub story : {T : Type 0} → T → List (Event T) → Story T
story leaf [] = start leaf
story leaf (e ∷ h) = tell e.call e.answer (story leaf h)
