-- From the exact state and answer of a call to what the keeper interface says of it.
use Rattle.std.proofs.Common.{◌≡◌, ℕ, ◌<◌, arith, not, Result, sym, ap, ◌∙◌}
use Rattle.std.proofs.lemmas.Bool.{eq-eqb, false≢true}
use Rattle.keeper.specs.declared.outcome.Outcome.{Outcome}
use Rattle.keeper.specs.declared.fault.Fault.{Fault}
use Rattle.keeper.specs.Effects.{OpenDone, PublishDone, CloseDone, StepDone, OpenSays, PublishSays, CloseSays, StepSays, open_fault, publish_fault, close_fault, step_fault}
use Rattle.keeper.proofs.Faults.{seated, passed, in_range, allowed}
use Rattle.keeper.proofs.Exact.{acts}
use Rattle.announcement_theory.specs.State.{State}
use Rattle.announcement_theory.specs.Next as next
use Rattle.announcement_theory.specs.Means.{meaning_of}
use Rattle.announcement_theory.specs.Invariant.{Good}
use Rattle.announcement_theory.proofs.Calls.{open_call, publish_call, close_call, step_call}
use Rattle.announcement.specs.declared.state.Announcing.{Announcing}
use Rattle.announcement.specs.Exact.{good, open_refused, open_done, open_kept, publish_refused, publish_full, publish_done, close_refused, close_done, close_kept, step_refused, step_done, checked_kept}
use Rattle.announcement.specs.Calls.{opens, open_answer, publishes, publish_answer, closes, close_answer, steps, step_answer}

module _ (s : State) (g : Good s) (p : ℕ) where
  pub open_says : (w : State) (r : Result (Unit {0}) Fault) → w ≡ opens s p → r ≡ open_answer s p → OpenSays (meaning_of s) p (meaning_of w) r
  open_says w r e f = acts meaning_of (open_fault (meaning_of s) p) s _ w tt r (λ n _. OpenDone (meaning_of s) p n) e f
      (λ none. let h = seated p s.programs _ none in (open_call s g p h (passed _ _ _ (sym (in_range p s.programs _ h) ∙ none))).1)

  pub publish_says : (root : ℕ) (w : State) (r : Result (Unit {0}) Fault) → w ≡ publishes s p root → r ≡ publish_answer s p → PublishSays (meaning_of s) p root (meaning_of w) r
  publish_says root w r e f = acts meaning_of (publish_fault (meaning_of s) p) s _ w tt r (λ n _. PublishDone (meaning_of s) p root n) e f
      (λ none.
      let h = seated p s.programs _ none in
      let on = sym (in_range p s.programs _ h) ∙ none in
      let stage = passed _ _ _ on in
      let room = passed _ _ _ (sym (allowed _ _ _ stage) ∙ on) in
      (publish_call s g p h root stage (λ full. absurd (false≢true (sym (ap not (eq-eqb _ _ full)) ∙ room)))).1)

  pub close_says : (w : State) (r : Result (Unit {0}) Fault) → w ≡ closes s p → r ≡ close_answer s p → CloseSays (meaning_of s) p (meaning_of w) r
  close_says w r e f = acts meaning_of (close_fault (meaning_of s) p) s _ w tt r (λ n _. CloseDone (meaning_of s) p n) e f
      (λ none. let h = seated p s.programs _ none in (close_call s g p h (passed _ _ _ (sym (in_range p s.programs _ h) ∙ none))).1)

  pub step_says : (w : State) (r : Result Outcome Fault) → w ≡ steps s p → r ≡ step_answer s p → StepSays (meaning_of s) p (meaning_of w) r
  step_says w r e f = acts meaning_of (step_fault (meaning_of s) p) s _ w (next.step s p).outcome r (λ n o. StepDone (meaning_of s) p n o) e f
      (λ none. let h = seated p s.programs _ none in (step_call s g p h (passed _ _ _ (sym (in_range p s.programs _ h) ∙ none))).1)

-- the current serial is at most the last, which leaves room for one more
pub room : (k : Announcing) → k.board.current.serial < 4294967295
room k = let g = good k in omega (arith, g.sized, g.reached)

-- how a call is exact: where the stage forbids it, and where it is carried out
pub ruleset exact_calls = (open_refused, open_done, open_kept, publish_refused, publish_full, publish_done, close_refused, close_done, close_kept, step_refused, step_done, checked_kept, room)
