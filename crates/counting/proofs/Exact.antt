-- From the exact state and answer of a call to what the keeper interface says of it.
use Rattle.std.proofs.Common.{◌≡◌, ℕ, ◌<◌, true, None, Result, sym, refl, ◌∙◌}
use Rattle.std.proofs.lemmas.Bool.{false≢true}
use Rattle.keeper.specs.declared.stage.Stage.{Stage}
use Rattle.keeper.specs.declared.stage.Stage.TheVariants.{Idle, Opening, Open, Offering, Offered, Closing}
use Rattle.keeper.specs.declared.outcome.Outcome.{Outcome}
use Rattle.keeper.specs.declared.fault.Fault.{Fault}
use Rattle.keeper.specs.Stages.{moving, serial_of}
use Rattle.keeper.specs.Effects.{OpenDone, PublishDone, CloseDone, StepDone, OpenSays, PublishSays, CloseSays, StepSays, open_fault, publish_fault, close_fault, step_fault}
use Rattle.keeper.proofs.Exact.{acts}
use Rattle.keeper.proofs.Faults.{seated, passed, in_range}
use Rattle.counting.specs.State.{State}
use Rattle.counting.specs.Moves.{meaning_of, stage_at, stepped, answered}
use Rattle.counting.specs.Calls.{opens, open_answer, publishes, publish_answer, closes, close_answer, steps, step_answer}
use Rattle.counting.specs.Good.{Good}
use Rattle.counting.specs.Means.{begun, open_step, offer_step, close_step}

module _ (v : State) (g : Good v) (p : ℕ) where
  pub open_says : (w : State) (r : Result (Unit {0}) Fault) → w ≡ opens v p → r ≡ open_answer v p → OpenSays (meaning_of v) p (meaning_of w) r
  open_says w r e f = acts meaning_of (open_fault (meaning_of v) p) v _ w tt r (λ n _. OpenDone (meaning_of v) p n) e f
      (λ none. begun v g p (seated p v.programs _ none) (Opening v.current.serial None) refl)

  pub publish_says : (root : ℕ) (w : State) (r : Result (Unit {0}) Fault) → w ≡ publishes v p root → r ≡ publish_answer v p → PublishSays (meaning_of v) p root (meaning_of w) r
  publish_says root w r e f = acts meaning_of (publish_fault (meaning_of v) p) v _ w tt r (λ n _. PublishDone (meaning_of v) p root n) e f
      (λ none. begun v g p (seated p v.programs _ none) (Offering root (serial_of (stage_at v p))) refl)

  pub close_says : (w : State) (r : Result (Unit {0}) Fault) → w ≡ closes v p → r ≡ close_answer v p → CloseSays (meaning_of v) p (meaning_of w) r
  close_says w r e f = acts meaning_of (close_fault (meaning_of v) p) v _ w tt r (λ n _. CloseDone (meaning_of v) p n) e f
      (λ none. begun v g p (seated p v.programs _ none) (Closing (serial_of (stage_at v p))) refl)

  step_done : p < v.programs → (st : Stage) → stage_at v p ≡ st → moving st ≡ true → StepDone (meaning_of v) p (meaning_of (stepped v p st)) (answered v st)
  step_done h Idle e m = absurd (false≢true m)
  step_done h (Opening since bound) e m = open_step v g p h since bound e
  step_done h (Open s) e m = absurd (false≢true m)
  step_done h (Offering r s) e m = offer_step v g p h r s e
  step_done h (Offered s) e m = absurd (false≢true m)
  step_done h (Closing s) e m = close_step v g p h s e

  pub step_says : (w : State) (r : Result Outcome Fault) → w ≡ steps v p → r ≡ step_answer v p → StepSays (meaning_of v) p (meaning_of w) r
  step_says w r e f = acts meaning_of (step_fault (meaning_of v) p) v _ w (answered v (stage_at v p)) r (λ n o. StepDone (meaning_of v) p n o) e f
      (λ none. let h = seated p v.programs _ none in step_done h (stage_at v p) refl (moves h none))
    where
      moves : p < v.programs → step_fault (meaning_of v) p ≡ None → moving (stage_at v p) ≡ true
      moves h none = passed _ _ _ (sym (in_range p v.programs _ h) ∙ none)
