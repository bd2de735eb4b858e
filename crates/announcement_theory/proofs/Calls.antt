-- Each call that the stage allows keeps what always holds, and has the effects that a keeper owes.
use Rattle.std.proofs.Common.{◌≡◌, ℕ, ◌<◌, true, ◌⊎◌, sym, refl, ap, ◌∙◌, inl, inr, ⊎_elim}
use Rattle.announcement_theory.specs.declared.mark.Mark.{Mark}
use Rattle.announcement_theory.specs.declared.announcement.Announcement.{Announcement}
use Rattle.announcement_theory.specs.declared.position.Position.{Position}
use Rattle.announcement_theory.specs.declared.position.Position.TheVariants.{Idle, Open, Offered}
use Rattle.announcement_theory.specs.State.{State, position_at, announced_at}
use Rattle.announcement_theory.proofs.Basics.{false_true}
use Rattle.keeper.specs.declared.stage.Stage.{Stage}
use Rattle.keeper.specs.Stages.{idle, opened, closable, moving}
use Rattle.keeper.specs.Meaning.{stage_of}
use Rattle.announcement_theory.specs.Means.{stage_from, meaning_of}
use Rattle.keeper.specs.Effects.{OpenDone, PublishDone, CloseDone, StepDone}
use Rattle.announcement_theory.specs.Invariant.{Good}
use Rattle.announcement_theory.specs.Next.{step, opens, publishes, closes}
use Rattle.announcement_theory.proofs.Lawful.{stage_at_is}
use Rattle.announcement_theory.proofs.Steps.{opens_good, publishes_good, closes_open_good, closes_offered_good, step_good}
use Rattle.announcement_theory.proofs.Done.{opens_done, publishes_done, closes_open_done, closes_offered_done, step_done}

-- where a program stands that is idle, open, or may close
idle_position : (at : Position) (a : Announcement) → idle (stage_from a at) ≡ true → at ≡ Idle
idle_position Idle a e = refl
idle_position _ a e = false_true e

open_position : (at : Position) (a : Announcement) → opened (stage_from a at) ≡ true → (v : Mark) × (at ≡ Open v)
open_position (Open v) a e = (v, refl)
open_position _ a e = false_true e

close_position : (at : Position) (a : Announcement) → closable (stage_from a at) ≡ true → (v : Mark) × ((at ≡ Open v) ⊎ (at ≡ Offered v))
close_position (Open v) a e = (v, inl refl)
close_position (Offered v) a e = (v, inr refl)
close_position _ a e = false_true e

module _ (s : State) (g : Good s) (p : ℕ) (h : p < s.programs) where
  abbrev st : Stage
  st = stage_of (meaning_of s) p

  pub open_call : idle st ≡ true → Good (opens s p) × OpenDone (meaning_of s) p (meaning_of (opens s p))
  open_call e =
      let at = idle_position (position_at s p) (announced_at s p) (sym (ap idle (stage_at_is s p)) ∙ e) in
      (opens_good s g p h at, opens_done s g p h at)

  pub publish_call : (r : ℕ) → opened st ≡ true → (s.current.serial ≡ s.last → ⊥) → Good (publishes s p r) × PublishDone (meaning_of s) p r
      (meaning_of (publishes s p r))
  publish_call r e more =
      let at = open_position (position_at s p) (announced_at s p) (sym (ap opened (stage_at_is s p)) ∙ e) in
      (publishes_good s g p h r at.0 at.1 more, publishes_done s g p h r at.0 at.1)

  pub close_call : closable st ≡ true → Good (closes s p) × CloseDone (meaning_of s) p (meaning_of (closes s p))
  close_call e =
      let at = close_position (position_at s p) (announced_at s p) (sym (ap closable (stage_at_is s p)) ∙ e) in
      let v = at.0 in
      ⊎_elim
      (λ (o : position_at s p ≡ Open v). (closes_open_good s g p h v o, closes_open_done s g p h v o))
      (λ (o : position_at s p ≡ Offered v). (closes_offered_good s g p h v o, closes_offered_done s g p h v o))
      at.1

  pub step_call : moving st ≡ true → Good (step s p).after × StepDone (meaning_of s) p (meaning_of (step s p).after) (step s p).outcome
  step_call e = (step_good s g p h, step_done s g p h (sym (ap moving (stage_at_is s p)) ∙ e))
