-- What each call of a counting keeper answers, from the stage that the code reads.
use Rattle.std.proofs.Common.{◌≡◌, ℕ, ◌+◌, ◌<◌, ◌≤◌, true, false, cond, get_or, Some, None, Ok, Err, Option, Result, sym, ap, ◌∙◌, subst, ⊎_elim, arith}
use Rattle.std.proofs.lemmas.Bool.{cases_lt, lt-ltb, false≢true}
use Rattle.keeper.specs.declared.stage.Stage.{Stage}
use Rattle.keeper.specs.declared.stage.Stage.TheVariants.{Idle, Opening, Open, Offering, Offered, Closing}
use Rattle.keeper.specs.declared.outcome.Outcome.{Outcome}
use Rattle.keeper.specs.declared.fault.Refusal.TheVariants.{NoProgram, StageForbids, LastSerial}
use Rattle.keeper.specs.declared.fault.Fault.{Fault}
use Rattle.keeper.specs.Stages.{uses, named, has, engaged, idle, opened, closable, moving, serial_of}
use Rattle.keeper.specs.Refusals.{fault}
use Rattle.keeper.specs.Meaning.{Meaning, stage_of}
use Rattle.keeper.specs.Effects.{answer, stage_answer, root_answer, root_of}
use Rattle.keeper.proofs.Stages.{idle_is}
use Rattle.keeper.proofs.Faults.{in_range, open_meets, publish_meets, publish_last, publish_allowed, close_meets, step_meets}
use Rattle.keeper.proofs.Exact.{refused_state, refused_answer, done_state, done_answer}
use Rattle.counting.specs.declared.state.Counting.{Counting}
use Rattle.counting.specs.State.{State}
use Rattle.counting.specs.Moves.{stepped, answered, meaning_of, stage_at, put, place, root_in}
use Rattle.counting.specs.Model.{state_of}
use Rattle.counting.specs.Steps.{used_held}
use Rattle.counting.specs.Means.{root_at_is, has_engaged}
use Rattle.counting.specs.declared.label.Label.{Label}
use Rattle.counting.specs.Labels.{label_of, label_answer}
use Rattle.counting.specs.Calls.{opens, open_answer, publishes, publish_answer, closes, close_answer, steps, step_answer}
use Rattle.counting.specs.Bridge.{good, stage_here, row_here}

pub closes_has : (st : Stage) (s : ℕ) → has st ≡ Some s → closable st ≡ true → serial_of st ≡ s
closes_has Idle s e c = absurd (false≢true c)
closes_has (Opening since bound) s e c = absurd (false≢true c)
closes_has (Open b) s e c = cc
closes_has (Offering r b) s e c = absurd (false≢true c)
closes_has (Offered b) s e c = cc
closes_has (Closing b) s e c = absurd (false≢true c)

module _ (k : Counting) (p : ℕ) (within : p < k.programs) where
  pub here : (st : Stage) → get_or k.stages p Idle ≡ st → stage_at (state_of k) p ≡ st
  here st e = stage_here k p within ∙ e

  -- a serial that a program uses is none after the current one
  pub not_later : (s : ℕ) → engaged (stage_at (state_of k) p) ≡ Some s → s ≤ k.current.serial
  not_later s e = ⊎_elim
      (λ (late : k.current.serial < s). absurd (omega (arith, k.filled.2 s late, used_held (state_of k) (good k) p s within e)))
      (λ (h : s ≤ k.current.serial). h)
      (cases_lt k.current.serial s)

  pub open_level : idle (get_or k.stages p Idle) ≡ true → (s : ℕ) → 0 ≡ uses s (stage_at (state_of k) p)
  open_level e s = sym (ap (uses s) (here Idle (idle_is _ e)))

  pub used_level : (s : ℕ) → has (get_or k.stages p Idle) ≡ Some s → (t : ℕ) → named t (Some s) ≡ uses t (stage_at (state_of k) p)
  used_level s e t = sym (ap (uses t) (stage_here k p within) ∙ ap (named t) (has_engaged (get_or k.stages p Idle) s e))

  -- the enquiries
  pub stage_says : Ok (get_or k.stages p Idle) ≡ stage_answer (meaning_of (state_of k)) p
  stage_says = sym (ap (λ o. answer o (stage_at (state_of k) p)) (in_range p k.programs None within) ∙ ap (λ st. Ok st) (stage_here k p within))

  pub label_says : (o : Option Label) → o ≡ label_of (get_or k.stages p Idle) → Ok o ≡ label_answer (state_of k) p
  label_says o is = sym (ap (λ x. answer x (label_of (stage_at (state_of k) p))) (in_range p k.programs None within) ∙ ap (λ st. Ok (label_of st)) (stage_here k p within) ∙ ap (λ x. Ok x) (sym is))

  root_cond : (r : Result ℕ Fault) → root_of (meaning_of (state_of k)) (has (get_or k.stages p Idle)) ≡ r → root_answer (meaning_of (state_of k)) p ≡ r
  root_cond r e = ap (λ b. cond b (root_of (meaning_of (state_of k)) (has (stage_at (state_of k) p))) (Err (fault NoProgram))) (lt-ltb p k.programs within) ∙ ap (λ st. root_of (meaning_of (state_of k)) (has st)) (stage_here k p within) ∙ e

  pub root_says : (s i r : ℕ) → Some s ≡ has (get_or k.stages p Idle) → i ≡ place (state_of k) s → i < k.programs + 1 → r ≡ root_in (get_or k.rows i None) → Ok r ≡ root_answer (meaning_of (state_of k)) p
  root_says s i r e at h is = sym (root_cond (Ok r) (ap (root_of (meaning_of (state_of k))) (sym e) ∙ ap (λ x. Ok x) (root_at_is s (state_of k).rows ∙ sym (ap (λ j. root_in (get_or (state_of k).rows j None)) at) ∙ ap root_in (row_here k i h) ∙ sym is)))

  pub root_none : (f : Fault) → None ≡ has (get_or k.stages p Idle) → f ≡ fault StageForbids → Err f ≡ root_answer (meaning_of (state_of k)) p
  root_none f e is = sym (root_cond (Err f) (ap (root_of (meaning_of (state_of k))) (sym e) ∙ ap (λ x. Err x) (sym is)))

-- Each acting call, exactly, from what the code reads at p, the place of program q.
module _ (k : Counting) (p q : ℕ) (at : p ≡ q) (within : p < k.programs) where
  abbrev meant : Meaning
  meant = meaning_of (state_of k)

  here_is : stage_of meant p ≡ get_or k.stages p Idle
  here_is = stage_here k p within

  pub open_refused : (f : Fault) → idle (get_or k.stages p Idle) ≡ false → f ≡ fault StageForbids → (state_of k ≡ opens (state_of k) q) × (Err f ≡ open_answer (state_of k) q)
  open_refused f e is =
      let met = open_meets meant p _ within here_is false e ∙ ap (λ x. Some x) (sym is) in
      subst (λ (x : ℕ). (state_of k ≡ opens (state_of k) x) × (Err f ≡ open_answer (state_of k) x)) at (refused_state _ f _ _ met, refused_answer _ f tt met)

  pub open_done : (w : State) → idle (get_or k.stages p Idle) ≡ true → w ≡ put (state_of k) p (Opening k.current.serial None) → (w ≡ opens (state_of k) q) × (Ok tt ≡ open_answer (state_of k) q)
  open_done w e is =
      let met = open_meets meant p _ within here_is true e in
      subst (λ (x : ℕ). (w ≡ opens (state_of k) x) × (Ok tt ≡ open_answer (state_of k) x)) at (is ∙ done_state _ _ _ met, done_answer _ tt met)

  pub publish_refused : (r : ℕ) (f : Fault) → opened (get_or k.stages p Idle) ≡ false → f ≡ fault StageForbids → (state_of k ≡ publishes (state_of k) q r) × (Err f ≡ publish_answer (state_of k) q)
  publish_refused r f e is =
      let met = publish_meets meant p _ within here_is false e ∙ ap (λ x. Some x) (sym is) in
      subst (λ (x : ℕ). (state_of k ≡ publishes (state_of k) x r) × (Err f ≡ publish_answer (state_of k) x)) at (refused_state _ f _ _ met, refused_answer _ f tt met)

  pub publish_full : (r s : ℕ) (f : Fault) → get_or k.stages p Idle ≡ Open s → k.current.serial ≡ k.last → f ≡ fault LastSerial → (state_of k ≡ publishes (state_of k) q r) × (Err f ≡ publish_answer (state_of k) q)
  publish_full r s f e full is =
      let met = publish_last meant p _ within here_is (ap opened e) full ∙ ap (λ x. Some x) (sym is) in
      subst (λ (x : ℕ). (state_of k ≡ publishes (state_of k) x r) × (Err f ≡ publish_answer (state_of k) x)) at (refused_state _ f _ _ met, refused_answer _ f tt met)

  pub publish_done : (w : State) (r s : ℕ) → get_or k.stages p Idle ≡ Open s → (k.current.serial ≡ k.last → ⊥) → w ≡ put (state_of k) p (Offering r s) → (w ≡ publishes (state_of k) q r) × (Ok tt ≡ publish_answer (state_of k) q)
  publish_done w r s e room is =
      let met = publish_allowed meant p _ within here_is (ap opened e) room in
      let over : put (state_of k) p (Offering r s) ≡ put (state_of k) p (Offering r (serial_of (stage_at (state_of k) p))) = ap (λ x. put (state_of k) p (Offering r (serial_of x))) (sym (here k p within (Open s) e)) in
      subst (λ (x : ℕ). (w ≡ publishes (state_of k) x r) × (Ok tt ≡ publish_answer (state_of k) x)) at (is ∙ over ∙ done_state _ _ _ met, done_answer _ tt met)

  pub close_refused : (f : Fault) → closable (get_or k.stages p Idle) ≡ false → f ≡ fault StageForbids → (state_of k ≡ closes (state_of k) q) × (Err f ≡ close_answer (state_of k) q)
  close_refused f e is =
      let met = close_meets meant p _ within here_is false e ∙ ap (λ x. Some x) (sym is) in
      subst (λ (x : ℕ). (state_of k ≡ closes (state_of k) x) × (Err f ≡ close_answer (state_of k) x)) at (refused_state _ f _ _ met, refused_answer _ f tt met)

  pub close_done : (w : State) (s : ℕ) → closable (get_or k.stages p Idle) ≡ true → has (get_or k.stages p Idle) ≡ Some s → w ≡ put (state_of k) p (Closing s) → (w ≡ closes (state_of k) q) × (Ok tt ≡ close_answer (state_of k) q)
  close_done w s c e is =
      let met = close_meets meant p _ within here_is true c in
      let of : put (state_of k) p (Closing s) ≡ put (state_of k) p (Closing (serial_of (stage_at (state_of k) p))) = ap (λ x. put (state_of k) p (Closing x)) (sym (ap serial_of (stage_here k p within) ∙ closes_has _ s e c)) in
      subst (λ (x : ℕ). (w ≡ closes (state_of k) x) × (Ok tt ≡ close_answer (state_of k) x)) at (is ∙ of ∙ done_state _ _ _ met, done_answer _ tt met)

  pub step_refused : (f : Fault) → moving (get_or k.stages p Idle) ≡ false → f ≡ fault StageForbids → (state_of k ≡ steps (state_of k) q) × (Err f ≡ step_answer (state_of k) q)
  step_refused f e is =
      let met = step_meets meant p _ within here_is false e ∙ ap (λ x. Some x) (sym is) in
      subst (λ (x : ℕ). (state_of k ≡ steps (state_of k) x) × (Err f ≡ step_answer (state_of k) x)) at (refused_state _ f _ _ met, refused_answer _ f _ met)

  pub step_done : (w : State) (o : Outcome) (st : Stage) → get_or k.stages p Idle ≡ st → moving st ≡ true → w ≡ stepped (state_of k) p st → o ≡ answered (state_of k) st → (w ≡ steps (state_of k) q) × (Ok o ≡ step_answer (state_of k) q)
  step_done w o st e m is value =
      let met = step_meets meant p _ within here_is true (ap moving e ∙ m) in
      let stage = here k p within st e in
      subst (λ (x : ℕ). (w ≡ steps (state_of k) x) × (Ok o ≡ step_answer (state_of k) x)) at
      (is ∙ ap (stepped (state_of k) p) (sym stage) ∙ done_state _ _ _ met, ap (λ x. Ok x) (value ∙ ap (answered (state_of k)) (sym stage)) ∙ done_answer _ _ met)
