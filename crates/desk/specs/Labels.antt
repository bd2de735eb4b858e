-- A number that is no program's stands at no label.
use Rattle.std.specs.Prelude.{◌≡◌, ℕ, Bool, true, false, is_some, None, Ok, Err, nat_lt, refl}
use Rattle.std.proofs.Common.{sym, ap, ◌∙◌, arith}
use Rattle.std.proofs.lemmas.List.{get_or_past}
use Rattle.std.proofs.lemmas.Bool.{ltb-false}
use Rattle.keeper.specs.declared.stage.Stage.TheVariants.{Idle}
use Rattle.keeper.specs.declared.fault.Fault.{Fault}
use Rattle.keeper.specs.declared.fault.Refusal.TheVariants.{NoProgram}
use Rattle.keeper.specs.Refusals.{unless}
use Rattle.keeper.specs.Effects.{answer}
use Rattle.counting.specs.declared.state.Counting.{Counting}
use Rattle.counting.specs.Moves.{stage_at}
use Rattle.counting.specs.Labels.{label_of, label_answer}
use Rattle.counting.specs.Model.{state_of}
use Rattle.keeper.specs.Stages.{moving}
use Rattle.keeper.specs.Meaning.{stage_of}
use Rattle.announcement_theory.specs.declared.announcement.Announcement.{Announcement}
use Rattle.announcement_theory.specs.declared.position.Position.{Position}
use Rattle.announcement_theory.specs.declared.position.Position.TheVariants.{Idle as Nowhere, Opening, Open, Offering, Offered, Closing}
use Rattle.announcement_theory.specs.declared.seat.Seat.{Seat}
use Rattle.announcement_theory.specs.State.{State, unseated, position_at, announced_at}
use Rattle.announcement_theory.specs.Means as announcement
use Rattle.announcement_theory.specs.Means.{stage_from}
use Rattle.announcement_theory.proofs.Lawful.{stage_at_is}
use Rattle.announcement.specs.declared.state.Announcing.{Announcing}
use Rattle.announcement.specs.Model.{state_in}
use Rattle.announcement.specs.Calls.{label_answer as announcement_answer}
use Rattle.announcement.specs.Exact.{good}
use Rattle.desk.specs.Performs.{announcement_label, counting_label}

differ : {A : Type 0} {a : A} {f : Fault} → Err f ≡ Ok a → ◌≡◌ {A = ℕ} 0 1
differ e = cc

pub no_label : (k : Counting) (p : ℕ) (f : Fault) → Err f ≡ label_answer (state_of k) p → None ≡ counting_label (stage_at (state_of k) p)
no_label k p f e = go (nat_lt p k.programs) refl e
  where
    go : (b : Bool) → nat_lt p k.programs ≡ b → Err f ≡ answer (unless b NoProgram None) (label_of (stage_at (state_of k) p)) → None ≡ counting_label (stage_at (state_of k) p)
    go true t e = absurd (omega (arith, differ e))
    go false t e = sym (ap counting_label (get_or_past (state_of k).stages p Idle (omega (arith, ltb-false p k.programs t, k.sized))))

-- the same of the announcement keeper; and a program with steps left stands at a label
pub nowhere : (k : Announcing) (p : ℕ) (f : Fault) → Err f ≡ announcement_answer (state_in k) p → None ≡ announcement_label (position_at (state_in k) p)
nowhere k p f e = go (nat_lt p k.board.programs) refl e
  where
    go : (b : Bool) → nat_lt p k.board.programs ≡ b → Err f ≡ answer (unless b NoProgram None) (announcement.label_of (position_at (state_in k) p)) → None ≡ announcement_label (position_at (state_in k) p)
    go true t e = absurd (omega (arith, differ e))
    go false t e = sym (ap (λ (x : Seat). announcement_label x.position) (get_or_past (state_in k).seats p unseated (omega (arith, ltb-false p k.board.programs t, (good k).sized))))

somewhere : (at : Position) (a : Announcement) → moving (stage_from a at) ≡ true → is_some (announcement_label at) ≡ true
somewhere Nowhere a e = e
somewhere (Opening t at) a e = refl
somewhere (Open v) a e = e
somewhere (Offering o at) a e = refl
somewhere (Offered v) a e = e
somewhere (Closing v at) a e = refl

pub placed : (s : State) (p : ℕ) → moving (stage_of (announcement.meaning_of s) p) ≡ true → is_some (announcement_label (position_at s p)) ≡ true
placed s p e = somewhere (position_at s p) (announced_at s p) (sym (ap moving (stage_at_is s p)) ∙ e)
