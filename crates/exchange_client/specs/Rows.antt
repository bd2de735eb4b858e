-- A row of calls, performed after a run.
use Rattle.std.specs.Prelude.{◌≡◌, ℕ, ◌+◌, List, [], ◌∷◌, ◌++◌, Ok, Err, Result}
use Rattle.keeper.specs.declared.fault.Fault.{Fault}
use Rattle.exchange_theory.specs.declared.calls.Call.{Call}
use Rattle.exchange_theory.specs.World.{World}
use Rattle.exchange_theory.specs.History.{Event, Reached}
use Rattle.exchange_theory.specs.Promises.{Promises}

-- the calls of a run, from the first to the last; the run itself has its latest event first
abbrev pub calls_of : {T : Type 0} → List (Event T) → List (Call T)
calls_of [] = []
calls_of (e ∷ h) = calls_of h ++ (e.call ∷ [])

-- 1 for an answer that is a refusal
abbrev pub turned : {A : Type 0} → Result A Fault → ℕ
turned (Ok a) = 0
turned (Err f) = 1

-- how many calls of a run were refused
abbrev pub refusals : {T : Type 0} → List (Event T) → ℕ
refusals [] = 0
refusals (e ∷ h) = refusals h + turned e.answer

-- the calls cs were performed after the run h and led to w, n of them refused; the whole run keeps what is promised
pub record Performed {T : Type 0} (leaf : T) (h : List (Event T)) (cs : List (Call T)) (n : ℕ) (w : World T) : Type 0 where
  pub later : List (Event T)
  pub calls : calls_of later ≡ cs
  pub refused : refusals later ≡ n
  pub reached : Reached leaf (later ++ h) w
  pub promises : Promises leaf (later ++ h) w
