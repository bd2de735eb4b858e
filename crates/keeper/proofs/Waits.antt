-- A program that opens, through the calls of others and its own steps, to the end of its open.
use Rattle.std.proofs.Common.{◌≡◌, ℕ, zero, suc, ◌+◌, ◌-◌, ◌<◌, ◌≤◌, cond, eqb, ◌≢◌, List, [], ◌∷◌, ◌++◌, length, get_or, take, Some, None, Ok, Err, Option, Result, sym, refl, ap, ◌∙◌, subst, inl, inr, ⊎_elim, add-one, arith, get_or-set_other, get_or-set_same, Bor}
use Rattle.std.proofs.lemmas.Bool.{cases_lt, eq-eqb, ne_eqb, lt-ltb}
use Rattle.std.proofs.lemmas.List.{take_more, get_or_past}
use Rattle.keeper.specs.declared.version.Version.{Version}
use Rattle.keeper.specs.declared.stage.Stage.{Stage}
use Rattle.keeper.specs.declared.stage.Stage.TheVariants.{Idle, Opening, Open as OpenOn, Offering, Closing}
use Rattle.keeper.specs.declared.outcome.Outcome.{Outcome}
use Rattle.keeper.specs.declared.outcome.Outcome.TheVariants.{GoesOn, Opened, Accepted, Stale, Nothing, HandedOut}
use Rattle.keeper.specs.declared.fault.Fault.{Fault}
use Rattle.keeper.specs.declared.fault.Refusal.TheVariants.{NoProgram, StageForbids}
use Rattle.keeper.specs.declared.client.Action.{Action}
use Rattle.keeper.specs.declared.client.Action.TheVariants.{Open, Publish, Close, Step}
use Rattle.keeper.specs.Stages.{has, moving}
use Rattle.keeper.specs.Refusals.{fault}
use Rattle.keeper.specs.Meaning.{Meaning, Laws, version, stage_of, left_of, times, copies, root_at, Paced}
use Rattle.keeper.specs.Effects.{OpenDone, OpenSays, StepSays, Rebinds, Begun, step_fault, root_answer, root_of}
use Rattle.keeper.specs.Course.{Course, here, after, MadeByOthers, none, more, Made, actor, others_of, calls_in, turns, EndsOpen}
use Rattle.keeper.proofs.Faults.{in_range, allowed, seated}
use Rattle.keeper.proofs.Recall.{Recall, Recalled, recalled_at_call, recalled_on, first_kept}

since_same : {a b : ℕ} {x y : Option ℕ} → Opening a x ≡ Opening b y → a ≡ b
since_same e = cc

not_offering : {a r s : ℕ} {x : Option ℕ} → Offering r s ≡ Opening a x → ⊥
not_offering e = let z : ◌≡◌ {A = ℕ} 0 1 = cc in omega arith

not_closing : {a s : ℕ} {x : Option ℕ} → Closing s ≡ Opening a x → ⊥
not_closing e = let z : ◌≡◌ {A = ℕ} 0 1 = cc in omega arith

-- program p is opening since a serial, with at most so many steps left
pub record OpeningSince (n : Meaning) (p since most : ℕ) : Type 0 where
  pub bound : Option ℕ
  pub stage : stage_of n p ≡ Opening since bound
  pub few : left_of n p ≤ most

-- another program's call that begins an operation leaves p alone
begun_stays : {m n : Meaning} {p q most : ℕ} {st : Stage} → (q ≡ p → ⊥) → Begun m q st most n → (stage_of n p ≡ stage_of m p) × (left_of n p ≡ left_of m p)
begun_stays {m = m} {n = n} {p = p} {q = q} {st = st} ne b =
    let other : p ≢ q = λ e. ne (sym e) in (
      ap (λ x. stage_of x p) b.after ∙ get_or-set_other m.stages q p st Idle other,
      ap (λ x. left_of x p) b.after ∙ get_or-set_other m.left q p (left_of n q) 0 other,
    )

stays_opening : {m n : Meaning} {p since most : ℕ} → OpeningSince m p since most → (stage_of n p ≡ stage_of m p) × (left_of n p ≡ left_of m p) → OpeningSince n p since most
stays_opening o (s, l) = record { bound = o.bound; stage = s ∙ o.stage; few = omega (arith, l, o.few) }

same_opening : {m n : Meaning} {p since most : ℕ} → OpeningSince m p since most → n ≡ m → OpeningSince n p since most
same_opening {p = p} o e = stays_opening o (ap (λ x. stage_of x p) e, ap (λ x. left_of x p) e)

-- a step may bind p
bound_opening : (m n : Meaning) (p since most r : ℕ) → OpeningSince m p since most → Rebinds n (stage_of m p) (stage_of n p) → left_of n p ≤ r → OpeningSince n p since r
bound_opening m n p since most r o (inl e) few = record { bound = o.bound; stage = e ∙ o.stage; few = few }
bound_opening m n p since most r o (inr (began, s, was, now, ok)) few =
    let same : began ≡ since = since_same (sym was ∙ o.stage) in
    record { bound = Some s; stage = now ∙ ap (λ x. Opening x (Some s)) same; few = few }

pub others_opening : (a : Action) (m n : Meaning) (p since most : ℕ) → (actor a ≡ p → ⊥) → Made a m n → OpeningSince m p since most → OpeningSince n p since most
others_opening (Open q) m n p since most ne (Ok u, says) o = stays_opening o (begun_stays ne says.1)
others_opening (Open q) m n p since most ne (Err f, says) o = same_opening o says.1
others_opening (Publish q r) m n p since most ne (Ok u, says) o = stays_opening o (begun_stays ne says.1)
others_opening (Publish q r) m n p since most ne (Err f, says) o = same_opening o says.1
others_opening (Close q) m n p since most ne (Ok u, says) o = stays_opening o (begun_stays ne says.1)
others_opening (Close q) m n p since most ne (Err f, says) o = same_opening o says.1
others_opening (Step q) m n p since most ne (Ok out, says) o =
    let frame = says.1.0 in
    bound_opening m n p since most most o (frame.others p (λ e. ne (sym e))) (omega (arith, frame.slower p (λ e. ne (sym e)), o.few))
others_opening (Step q) m n p since most ne (Err f, says) o = same_opening o says.1

ok_same : {x y : ℕ} → ◌≡◌ {A = Result ℕ Fault} (Ok x) (Ok y) → x ≡ y
ok_same e = cc

-- the root enquiry of a program that has s
rooted : (o : Meaning) (p s : ℕ) → p < o.programs → has (stage_of o p) ≡ Some s → root_answer o p ≡ Ok (root_at s o.kept)
rooted o p s h e = ap (λ b. cond b (root_of o (has (stage_of o p))) (Err (fault NoProgram))) (lt-ltb p o.programs h) ∙ ap (root_of o) e

-- after the open of p from m and the calls cs, p is opening, with at most so many steps left
pub record Waiting (m : Meaning) (p : ℕ) (cs : List Action) (most : ℕ) (n : Meaning) : Type 0 where
  pub called : Meaning
  pub begins : OpenDone m p called
  pub course : Course cs called n
  pub recalled : Recalled called m.current.serial cs n
  pub opening : OpeningSince n p m.current.serial most

-- a program that is not idle is one of the programs
pub seated_by_stage : (n : Meaning) (p since : ℕ) (b : Option ℕ) → Laws n → stage_of n p ≡ Opening since b → p < n.programs
seated_by_stage n p since b laws e = ⊎_elim
    (λ (h : p < n.programs). h)
    (λ (far : n.programs ≤ p). let z : ◌≡◌ {A = ℕ} 0 1 = not_idle (sym (get_or_past n.stages p Idle (omega (arith, laws.staged))) ∙ e) in absurd (omega arith))
    (cases_lt p n.programs)
  where
    not_idle : {a : ℕ} {x : Option ℕ} → Idle ≡ Opening a x → ◌≡◌ {A = ℕ} 0 1
    not_idle e = cc

pub called_waiting : (m n : Meaning) (p : ℕ) → p < length m.stages → OpenDone m p n → Laws n → Waiting m p [] m.declared.opening n
called_waiting m n p within done laws =
    let since : n.current.serial ≡ m.current.serial = ap (λ x. x.current.serial) done.after in
    record {
      called = n;
      begins = done;
      course = here laws;
      recalled = subst (λ (s : ℕ). Recalled n s [] n) since (recalled_at_call n laws);
      opening = record {
        bound = None;
        stage = ap (λ x. stage_of x p) done.after ∙ get_or-set_same m.stages p (Opening m.current.serial None) Idle within;
        few = done.few;
      };
    }

other_waiting : (m : Meaning) (p : ℕ) (cs : List Action) (most : ℕ) (n o : Meaning) (a : Action) → (actor a ≡ p → ⊥) → Made a n o → Laws o → Waiting m p cs most n → Waiting m p (a ∷ cs) most o
other_waiting m p cs most n o a ne made laws w = record {
  called = w.called;
  begins = w.begins;
  course = after a w.course made laws;
  recalled = recalled_on w.called n o m.current.serial cs a w.course w.recalled made laws;
  opening = others_opening a n o p m.current.serial most ne made w.opening;
}

pub others_waiting : {m : Meaning} {p most : ℕ} {cs bs : List Action} {n o : Meaning} → MadeByOthers p bs n o → Waiting m p cs most n → Waiting m p (bs ++ cs) most o
others_waiting (none laws) w = w
others_waiting {m = m} {p = p} {most = most} {cs = cs} (more {cs = bs} {n = n} {o = o} a before ne made laws) w = other_waiting m p (bs ++ cs) most n o a ne made laws (others_waiting before w)

module _ (m : Meaning) (p most : ℕ) (cs : List Action) (n : Meaning) (laws : Laws n) (w : Waiting m p cs most n) where
  within : p < n.programs
  within = seated_by_stage n p _ _ laws w.opening.stage

  -- some step is left, and a step is not refused
  pub steps_left : 0 < most
  steps_left = let paced = subst (λ (st : Stage). Paced st (left_of n p)) w.opening.stage (laws.paced p) in omega (arith, paced, w.opening.few)

  pub step_allowed : step_fault n p ≡ None
  step_allowed = in_range p n.programs _ within ∙ allowed _ StageForbids None (ap moving w.opening.stage)

  pub step_goes : (o : Meaning) (r : ℕ) → suc r ≡ most → StepSays n p o (Ok GoesOn) → Laws o → Waiting m p (Step p ∷ cs) r o
  step_goes o r e says after_laws = record {
    called = w.called;
    begins = w.begins;
    course = after (Step p) w.course (Ok GoesOn, says) after_laws;
    recalled = recalled_on w.called n o m.current.serial cs (Step p) w.course w.recalled (Ok GoesOn, says) after_laws;
    opening = bound_opening n o p m.current.serial most r w.opening says.1.1.stage (omega (arith, says.1.1.fewer, w.opening.few));
  }

  -- a step that ends the open: on which version, and when that was current
  pub step_opens : (o : Meaning) (s : ℕ) → StepSays n p o (Ok (Opened s)) → Laws o → (stage_of o p ≡ OpenOn s) × (0 < copies (version s (root_at s o.kept)) o.kept) × Recall w.called (Step p ∷ cs) o (version s (root_at s o.kept))
  step_opens o s says after_laws =
      let e = says.1.1 in
      let began : e.since ≡ m.current.serial = since_same (sym e.was ∙ w.opening.stage) in
      let held : 0 < times s o.kept = subst (λ (xs : List Version). 0 < times s xs) (sym e.versions.kept) e.chosen.kept in
      let kept = first_kept s o.kept held in
      let top : s ≤ o.current.serial = subst (λ (v : Version). s ≤ v.serial) (sym e.versions.current) e.chosen.to in
      let all = recalled_on w.called n o m.current.serial cs (Step p) w.course w.recalled (Ok (Opened s), says) after_laws in
      (e.is, kept, all (version s (root_at s o.kept)) kept (omega (arith, began, e.chosen.from)) top)

  -- a step of an open goes on or opens, and has no other answer
  pub step_answers : (o : Meaning) (out : Outcome) → StepSays n p o (Ok out) → ((s : ℕ) → out ≡ Opened s → ⊥) → out ≡ GoesOn
  step_answers o GoesOn says not = refl
  step_answers o (Opened s) says not = absurd (not s refl)
  step_answers o (Accepted t) says not = absurd (not_offering (sym says.1.1.was ∙ w.opening.stage))
  step_answers o Stale says not = absurd (not_offering (sym says.1.1.was ∙ w.opening.stage))
  step_answers o Nothing says not = absurd (not_closing (sym says.1.1.was ∙ w.opening.stage))
  step_answers o (HandedOut s) says not = absurd (not_closing (sym says.1.1.was ∙ w.opening.stage))

  -- the end, by the answer of the step and of the root enquiry after it
  pub ends_open : (others : List (List Action)) (o : Meaning) (s root k : ℕ) → cs ≡ others_of p (get_or others k []) [] ++ turns p others k → StepSays n p o (Ok (Opened s)) → Laws o → Ok root ≡ root_answer o p → k < m.declared.opening → EndsOpen m p others o (record { version = version s root; steps = k + 1 })
  ends_open others o s root k e says after_laws told time =
      let (stage, kept, recall) = step_opens o s says after_laws in
      let inside : p < o.programs = omega (arith, says.1.0.programs, within) in
      let asked : root_answer o p ≡ Ok (root_at s o.kept) = rooted o p s inside (ap has stage) in
      let is : root_at s o.kept ≡ root = ok_same (sym asked ∙ sym told) in
      subst (λ (r : ℕ). EndsOpen m p others o (record { version = version s r; steps = k + 1 })) is
      (record {
        called = w.called;
        moment = recall.moment;
        earlier = recall.earlier;
        later = recall.later;
        begins = w.begins;
        calls = ap (turns p others) (add-one k) ∙ ap (λ x. Step p ∷ x) (sym e) ∙ recall.calls;
        before = recall.before;
        onward = recall.onward;
        current = recall.current;
        stage = stage;
        kept = kept;
        steps = omega arith;
      })

-- the calls of one turn, as the loop comes by them
pub others_more : (p : ℕ) (cs : List Action) (a : Action) (earlier : List Action) → others_of p (cs ++ (a ∷ [])) earlier ≡ cond (eqb (actor a) p) (others_of p cs earlier) (a ∷ others_of p cs earlier)
others_more p [] a earlier = refl
others_more p (c ∷ cs) a earlier = others_more p cs a (cond (eqb (actor c) p) earlier (c ∷ earlier))

module _ (p : ℕ) (calls : List Action) (i : ℕ) (d : Action) (h : i < length calls) where
  front : others_of p (take (i + 1) calls) [] ≡ cond (eqb (actor (get_or calls i d)) p) (others_of p (take i calls) []) (get_or calls i d ∷ others_of p (take i calls) [])
  front = ap (λ cs. others_of p cs []) (take_more calls i d h) ∙ others_more p (take i calls) (get_or calls i d) []

  pub others_made : {m n o : Meaning} → (actor (get_or calls i d) ≡ p → ⊥) → Made (get_or calls i d) n o → Laws o → MadeByOthers p (others_of p (take i calls) []) m n → MadeByOthers p (others_of p (take (i + 1) calls) []) m o
  others_made {m = m} {o = o} ne made laws so_far =
      let a = get_or calls i d in
      subst (λ (cs : List Action). MadeByOthers p cs m o) (sym (front ∙ ap (λ b. cond b (others_of p (take i calls) []) (a ∷ others_of p (take i calls) [])) (ne_eqb (actor a) p ne))) (more a so_far ne made laws)

  pub own_skipped : {m n : Meaning} → actor (get_or calls i d) ≡ p → MadeByOthers p (others_of p (take i calls) []) m n → MadeByOthers p (others_of p (take (i + 1) calls) []) m n
  own_skipped {m = m} {n = n} e so_far =
      let a = get_or calls i d in
      subst (λ (cs : List Action). MadeByOthers p cs m n) (sym (front ∙ ap (λ b. cond b (others_of p (take i calls) []) (a ∷ others_of p (take i calls) [])) (eq-eqb (actor a) p e))) so_far

pub calls_at : (rs : List (Bor (List Action))) (k : ℕ) (d : Bor (List Action)) → k < length rs → (get_or rs k d).now ≡ get_or (calls_in rs) k []
calls_at [] k d h = absurd (omega arith)
calls_at (r ∷ rs) zero d h = refl
calls_at (r ∷ rs) (suc k) d h = calls_at rs k d (omega arith)

pub calls_past : (rs : List (Bor (List Action))) (k : ℕ) → length rs ≤ k → [] ≡ get_or (calls_in rs) k []
calls_past [] k h = refl
calls_past (r ∷ rs) zero h = absurd (omega arith)
calls_past (r ∷ rs) (suc k) h = calls_past rs k (omega arith)

-- a program whose open was called, k after it, at the start of its turns
pub begins_waiting : (m k : Meaning) (p most : ℕ) → Laws m → Laws k → OpenSays m p k (Ok tt) → most ≡ k.declared.opening → Waiting m p [] most k
begins_waiting m k p most before laws says e =
    let same : k.declared.opening ≡ m.declared.opening = ap (λ x. x.declared.opening) says.1.after in
    subst (λ (x : ℕ). Waiting m p [] x k) (sym (e ∙ same)) (called_waiting m k p (omega (arith, seated p m.programs _ says.0, before.staged)) says.1 laws)

pub never_refused : (x : Option Fault) (f : Fault) → x ≡ None → x ≡ Some f → ⊥
never_refused x f a b = let z : ◌≡◌ {A = ℕ} 0 1 = cc in omega arith

-- the same after some turns, and once the others made their calls of the next
pub turn_waiting : (m k : Meaning) (p most turn : ℕ) (others : List (List Action)) {n o : Meaning} → Laws m → Laws k → OpenSays m p k (Ok tt) → most ≡ k.declared.opening
    → ((x : Meaning) → Waiting x p [] most k → Waiting x p (turns p others turn) (most - turn) n) → MadeByOthers p (others_of p (get_or others turn []) []) n o
    → Waiting m p (others_of p (get_or others turn []) [] ++ turns p others turn) (most - turn) o
turn_waiting m k p most turn others before laws says e inv made = others_waiting made (inv m (begins_waiting m k p most before laws says e))
