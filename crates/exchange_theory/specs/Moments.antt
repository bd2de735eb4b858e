-- What is known of the moments of a run beside what is promised of every run. A moment follows the making or a call.
use Rattle.std.specs.Prelude.{◌≡◌, ℕ, Bool, false, List, [], ◌∷◌, Some, Ok, Result, ◌==◌}
use Rattle.keeper.specs.declared.outcome.Outcome.TheVariants.{Opened}
use Rattle.keeper.specs.declared.fault.Fault.{Fault}
use Rattle.keeper.specs.Stages.{has}
use Rattle.keeper.specs.Meaning.{stage_of}
use Rattle.exchange_theory.specs.declared.calls.Call.{Call}
use Rattle.exchange_theory.specs.declared.calls.Call.TheVariants.{Open}
use Rattle.exchange_theory.specs.declared.calls.Answer.{Answer}
use Rattle.exchange_theory.specs.World.{World}
use Rattle.exchange_theory.specs.History.{Event, story}
use Rattle.exchange_theory.specs.Promises.{Came}

-- P holds of each event of the run and of the run before it
abbrev pub Throughout : {T : Type 0} → (Event T → List (Event T) → Type 0) → List (Event T) → Type 0
Throughout P [] = Unit {0}
Throughout P (e ∷ h) = P e h × Throughout P h

-- whether a call with its answer is an open of program p that was not refused
abbrev pub is_open_of : {T : Type 0} → Call T → Result (Answer T) Fault → ℕ → Bool
is_open_of (Open q) (Ok a) p = p == q
is_open_of c r p = false

-- serial s was current at the last moment of the run, or at an earlier one that program p's last call of open had come before
pub data CurrentSinceOpen {T : Type 0} (leaf : T) (p s : ℕ) : List (Event T) → Type 0 where
  at_last : {h : List (Event T)} → (story leaf h).current ≡ s → CurrentSinceOpen leaf p s h
  earlier : {h : List (Event T)} (e : Event T) → is_open_of e.call e.answer p ≡ false → CurrentSinceOpen leaf p s h → CurrentSinceOpen leaf p s (e ∷ h)

-- an open that ended on s: s was current at a moment from the call of open to the step that ended it
abbrev pub OpenedAtMoment : {T : Type 0} → T → Event T → List (Event T) → Type 0
OpenedAtMoment leaf e before = (p s : ℕ) → Came e p (Opened s) → CurrentSinceOpen leaf p s before

-- what the run tells is what the keeper says: the current serial, and the version that a program has from the end of its open to its
-- call of close
pub record AsTold {T : Type 0} (leaf : T) (h : List (Event T)) (w : World T) : Type 0 where
  pub current_told : w.keeper.current.serial ≡ (story leaf h).current
  pub opened_had : (p s : ℕ) → (story leaf h).opened p ≡ Some s → has (stage_of w.keeper p) ≡ Some s
