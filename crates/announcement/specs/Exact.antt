-- Each acting call, exactly, from what the code reads of program q: its number p, its stage st.
use Rattle.std.specs.Prelude.{◌≡◌, ℕ, ◌<◌, true, false, cond, Some, None, Ok, Err, Option, Result, ◌≢◌}
use Rattle.std.proofs.Common.{sym, ap, ◌∙◌, subst}
use Rattle.std.proofs.lemmas.Bool.{lt-ltb}
use Rattle.keeper.specs.declared.stage.Stage.{Stage}
use Rattle.keeper.specs.declared.stage.Stage.TheVariants as stage
use Rattle.keeper.specs.declared.outcome.Outcome.{Outcome}
use Rattle.keeper.specs.declared.fault.Fault.{Fault}
use Rattle.keeper.specs.declared.fault.Refusal.TheVariants.{NoProgram, StageForbids, LastSerial}
use Rattle.keeper.specs.Stages.{has, idle, opened, closable, moving}
use Rattle.keeper.specs.Refusals.{Seated, fault}
use Rattle.keeper.specs.Meaning.{Meaning, stage_of}
use Rattle.keeper.specs.Effects.{answer, stage_answer, root_answer, root_of}
use Rattle.keeper.proofs.Faults.{in_range, open_meets, publish_meets, publish_last, publish_allowed, close_meets, step_meets}
use Rattle.keeper.proofs.Exact.{refused_state, refused_answer, done_state, done_answer}
use Rattle.announcement_theory.specs.declared.position.Label.{Label}
use Rattle.announcement_theory.specs.State.{State, slot_at, seat_at, position_at, announced_at}
use Rattle.announcement_theory.specs.Tests.{root_in, version_in}
use Rattle.announcement_theory.specs.Next as next
use Rattle.announcement_theory.specs.Means.{meaning_of, stage_in, label_of}
use Rattle.announcement_theory.specs.Invariant.{Good, Always}
use Rattle.announcement_theory.proofs.Certain.{surely, always}
use Rattle.announcement_theory.proofs.Lawful.{stage_at_is, root_had}
use Rattle.announcement_theory.proofs.Calls.{open_call, publish_call, close_call, step_call}
use Rattle.board.specs.Steps.{Steps}
use Rattle.announcement.specs.declared.state.Announcing.{Announcing}
use Rattle.announcement.specs.Model.{state_in}
use Rattle.announcement.specs.Calls.{opens, open_answer, publishes, publish_answer, closes, close_answer, steps, step_answer, label_answer}

pub good : (k : Announcing) → Good (state_in k)
good k = surely (state_in k) k.always

pub kept : (w v : State) → w ≡ v → Good v → Always w
kept w v e g = subst Always (sym e) (always v g)

-- the program that is seated
seated_below : (p q n : ℕ) → Seated n q (Ok p) → p < n
seated_below p q n seat = subst (λ x. x < n) (sym seat.0) seat.1

module _ (k : Announcing) (p q : ℕ) (seat : Seated k.board.programs q (Ok p)) (st : Stage) (is : st ≡ stage_in (seat_at (state_in k) p)) where
  abbrev s : State
  s = state_in k

  at : p ≡ q
  at = seat.0

  within : p < k.board.programs
  within = seated_below p q k.board.programs seat

  abbrev m : Meaning
  m = meaning_of s

  here : stage_of m p ≡ st
  here = stage_at_is s p ∙ sym is

  pub open_refused : (f : Fault) → idle st ≡ false → f ≡ fault StageForbids → (s ≡ opens s q) × (Err f ≡ open_answer s q)
  open_refused f e why =
      let met = open_meets m p st within here false e ∙ ap (λ x. Some x) (sym why) in
      subst (λ (x : ℕ). (s ≡ opens s x) × (Err f ≡ open_answer s x)) at (refused_state _ f _ _ met, refused_answer _ f tt met)

  pub open_done : (w : State) → idle st ≡ true → w ≡ next.opens s p → (w ≡ opens s q) × (Ok tt ≡ open_answer s q)
  open_done w e after =
      let met = open_meets m p st within here true e in
      subst (λ (x : ℕ). (w ≡ opens s x) × (Ok tt ≡ open_answer s x)) at (after ∙ done_state _ _ _ met, done_answer _ tt met)

  pub open_kept : (w : State) → idle st ≡ true → w ≡ next.opens s p → Always w
  open_kept w e after = kept w (next.opens s p) after (open_call s (good k) p within (ap idle here ∙ e)).0

  pub publish_refused : (r : ℕ) (f : Fault) → opened st ≡ false → f ≡ fault StageForbids → (s ≡ publishes s q r) × (Err f ≡ publish_answer s q)
  publish_refused r f e why =
      let met = publish_meets m p st within here false e ∙ ap (λ x. Some x) (sym why) in
      subst (λ (x : ℕ). (s ≡ publishes s x r) × (Err f ≡ publish_answer s x)) at (refused_state _ f _ _ met, refused_answer _ f tt met)

  pub publish_full : (r n : ℕ) (f : Fault) → st ≡ stage.Open n → s.current.serial ≡ s.last → f ≡ fault LastSerial → (s ≡ publishes s q r) × (Err f ≡ publish_answer s q)
  publish_full r n f e full why =
      let met = publish_last m p st within here (ap opened e) full ∙ ap (λ x. Some x) (sym why) in
      subst (λ (x : ℕ). (s ≡ publishes s x r) × (Err f ≡ publish_answer s x)) at (refused_state _ f _ _ met, refused_answer _ f tt met)

  pub publish_done : (w : State) (r n : ℕ) → st ≡ stage.Open n → (s.current.serial ≢ s.last) → w ≡ next.publishes s p r → (w ≡ publishes s q r) × (Ok tt ≡ publish_answer s q)
  publish_done w r n e room after =
      let met = publish_allowed m p st within here (ap opened e) room in
      subst (λ (x : ℕ). (w ≡ publishes s x r) × (Ok tt ≡ publish_answer s x)) at (after ∙ done_state _ _ _ met, done_answer _ tt met)

  pub publish_kept : (w : State) (r n : ℕ) → st ≡ stage.Open n → (s.current.serial ≢ s.last) → w ≡ next.publishes s p r → Always w
  publish_kept w r n e room after = kept w (next.publishes s p r) after (publish_call s (good k) p within r (ap opened (here ∙ e)) room).0

  pub close_refused : (f : Fault) → closable st ≡ false → f ≡ fault StageForbids → (s ≡ closes s q) × (Err f ≡ close_answer s q)
  close_refused f e why =
      let met = close_meets m p st within here false e ∙ ap (λ x. Some x) (sym why) in
      subst (λ (x : ℕ). (s ≡ closes s x) × (Err f ≡ close_answer s x)) at (refused_state _ f _ _ met, refused_answer _ f tt met)

  pub close_done : (w : State) → closable st ≡ true → w ≡ next.closes s p → (w ≡ closes s q) × (Ok tt ≡ close_answer s q)
  close_done w e after =
      let met = close_meets m p st within here true e in
      subst (λ (x : ℕ). (w ≡ closes s x) × (Ok tt ≡ close_answer s x)) at (after ∙ done_state _ _ _ met, done_answer _ tt met)

  pub close_kept : (w : State) → closable st ≡ true → w ≡ next.closes s p → Always w
  close_kept w e after = kept w (next.closes s p) after (close_call s (good k) p within (ap closable here ∙ e)).0

  pub step_refused : (f : Fault) → moving st ≡ false → f ≡ fault StageForbids → (s ≡ steps s q) × (Err f ≡ step_answer s q)
  step_refused f e why =
      let met = step_meets m p st within here false e ∙ ap (λ x. Some x) (sym why) in
      subst (λ (x : ℕ). (s ≡ steps s x) × (Err f ≡ step_answer s x)) at (refused_state _ f _ _ met, refused_answer _ f _ met)

  pub step_done : (w : State) (o : Outcome) → moving st ≡ true → w ≡ (next.step s p).after → o ≡ (next.step s p).outcome → (w ≡ steps s q) × (Ok o ≡ step_answer s q)
  step_done w o e after value =
      let met = step_meets m p st within here true e in
      subst (λ (x : ℕ). (w ≡ steps s x) × (Ok o ≡ step_answer s x)) at (after ∙ done_state _ _ _ met, ap (λ x. Ok x) value ∙ done_answer _ _ met)

  pub step_kept : (w : State) → moving st ≡ true → w ≡ (next.step s p).after → Always w
  step_kept w e after = kept w (next.step s p).after after (step_call s (good k) p within (ap moving here ∙ e)).0

  pub checked_kept : (w : State) (r : Option Outcome) → moving st ≡ true → Steps s p w r → Always w
  checked_kept w None e took = kept w s took.1 (good k)
  checked_kept w (Some o) e took = step_kept w e took.1.0

  -- the enquiries
  pub stage_says : Ok st ≡ stage_answer m q
  stage_says = subst (λ (x : ℕ). Ok st ≡ stage_answer m x) at (sym (ap (λ o. answer o (stage_of m p)) (in_range p s.programs None within) ∙ ap (λ x. Ok x) here))

  root_cond : (r : Result ℕ Fault) → root_of m (has st) ≡ r → r ≡ root_answer m q
  root_cond r e = subst (λ (x : ℕ). r ≡ root_answer m x) at
      (sym (ap (λ b. cond b (root_of m (has (stage_of m p))) (Err (fault NoProgram))) (lt-ltb p s.programs within) ∙ ap (λ x. root_of m (has x)) here ∙ e))

  pub root_says : (n r : ℕ) → Some n ≡ has st → r ≡ root_in (slot_at s (version_in (announced_at s p)).slot) → Ok r ≡ root_answer m q
  root_says n r e value = root_cond (Ok r) (ap (root_of m) (sym e) ∙ ap (λ x. Ok x) (root_had s (good k) p n (ap has here ∙ sym e) ∙ sym value))

  pub root_none : (f : Fault) → None ≡ has st → f ≡ fault StageForbids → Err f ≡ root_answer m q
  root_none f e why = root_cond (Err f) (ap (root_of m) (sym e) ∙ ap (λ x. Err x) (sym why))

pub label_says : (k : Announcing) (p q : ℕ) → Seated k.board.programs q (Ok p) → (o : Option Label) → o ≡ label_of (position_at (state_in k) p) → Ok o ≡ label_answer (state_in k) q
label_says k p q seat o is =
    subst (λ (x : ℕ). Ok o ≡ label_answer (state_in k) x) seat.0
    (sym (ap (λ x. answer x (label_of (position_at (state_in k) p))) (in_range p k.board.programs None (seated_below p q k.board.programs seat)) ∙ ap (λ x. Ok x) (sym is)))
