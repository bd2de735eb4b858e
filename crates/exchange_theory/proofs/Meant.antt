-- What the keeper means is what the run tells: serials, stages and steps.
use Rattle.std.proofs.Common.{◌≡◌, ℕ, ◌+◌, ◌<◌, ◌≤◌, Bool, true, false, cond, List, length, Some, None, Option, sym, refl, ap, ◌∙◌, subst, inl, ⊎_elim, arith}
use Rattle.std.proofs.lemmas.List.{get_or-set_same, get_or-set_other}
use Rattle.std.proofs.lemmas.Bool.{cases_eq, cases_lt, eq-eqb, ne_eqb}
use Rattle.keeper.specs.declared.version.Version.{Version}
use Rattle.keeper.specs.declared.version.Declared.{Declared}
use Rattle.keeper.specs.declared.stage.Stage.{Stage}
use Rattle.keeper.specs.declared.stage.Stage.TheVariants.{Idle, Opening, Open, Offering, Offered, Closing}
use Rattle.keeper.specs.declared.outcome.Outcome.{Outcome}
use Rattle.keeper.specs.declared.outcome.Outcome.TheVariants.{GoesOn, Opened, Accepted, Stale, Nothing, HandedOut}
use Rattle.keeper.specs.Stages.{serial_of}
use Rattle.keeper.specs.Meaning.{Meaning, Laws, version, stage_of, left_of, is_serial, times, root_at}
use Rattle.keeper.specs.Effects.{Begun, Rebinds, Frame, StepDone, OpenDone, PublishDone, CloseDone}
use Rattle.exchange_theory.specs.Story.{Story, Task, resting, opening, publishing, closing, at, calls_open, calls_publish, calls_close, tell_step}
use Rattle.exchange_theory.specs.Promises.{allowance}

-- the serial that a program opened, and what it is about, by its stage
abbrev pub opened_at : Stage → Option ℕ
opened_at Idle = None
opened_at (Opening a b) = None
opened_at (Open s) = Some s
opened_at (Offering r s) = Some s
opened_at (Offered s) = Some s
opened_at (Closing s) = None

abbrev pub task_at : Stage → Task
task_at Idle = resting
task_at (Opening a b) = opening
task_at (Open s) = resting
task_at (Offering r s) = publishing
task_at (Offered s) = resting
task_at (Closing s) = closing

-- 1 where it is so
abbrev pub one : Bool → ℕ
one true = 1
one false = 0

-- a version counts for its own serial, and for no other
counts_same : (s t r : ℕ) → s ≡ t → is_serial s (version t r) ≡ 1
counts_same s t r e = ap {B = ℕ} (λ b. cond b 1 0) (eq-eqb s t e)

counts_other : (s t r : ℕ) → (s ≡ t → ⊥) → is_serial s (version t r) ≡ 0
counts_other s t r e = ap {B = ℕ} (λ b. cond b 1 0) (ne_eqb s t e)

pub record Meant (current : ℕ) (opened : ℕ → Option ℕ) (since : ℕ → ℕ) (task : ℕ → Task) (taken : ℕ → ℕ) (gone : ℕ → Bool) (m : Meaning) : Type 0 where
  pub now : m.current.serial ≡ current
  pub opens : (p : ℕ) → opened p ≡ opened_at (stage_of m p)
  pub began : (p a : ℕ) (b : Option ℕ) → stage_of m p ≡ Opening a b → a ≡ since p
  pub about : (p : ℕ) → task p ≡ task_at (stage_of m p)
  pub timely : (p : ℕ) → (task_at (stage_of m p) ≡ resting → ⊥) → taken p + left_of m p ≤ allowance m.declared (task_at (stage_of m p))
  -- a serial up to the current one is kept, or was handed out, and not both; a later one is neither
  pub kept : (s : ℕ) → s ≤ current → times s m.kept + one (gone s) ≡ 1
  pub beyond : (s : ℕ) → current < s → (times s m.kept ≡ 0) × (gone s ≡ false)

abbrev pub MeantBy : {T : Type 0} → Story T → Meaning → Type 0
MeantBy S m = Meant S.current S.opened S.since S.task S.taken S.gone m

pub at_same : {A : Type 0} (f : ℕ → A) (i : ℕ) (x : A) → at f i x i ≡ x
at_same f i x = ap (λ b. cond b x (f i)) (eq-eqb i i refl)

pub at_other : {A : Type 0} (f : ℕ → A) (i : ℕ) (x : A) (j : ℕ) → (j ≡ i → ⊥) → at f i x j ≡ f j
at_other f i x j n = ap (λ b. cond b x (f j)) (ne_eqb j i n)

pub rebinds_opened : (n : Meaning) (a b : Stage) → Rebinds n a b → opened_at b ≡ opened_at a
rebinds_opened n a b r = ⊎_elim (λ e. ap opened_at e) (λ x. ap opened_at x.3 ∙ sym (ap opened_at x.2)) r

rebinds_task : (n : Meaning) (a b : Stage) → Rebinds n a b → task_at b ≡ task_at a
rebinds_task n a b r = ⊎_elim (λ e. ap task_at e) (λ x. ap task_at x.3 ∙ sym (ap task_at x.2)) r

rebinds_since : (n : Meaning) (a b : Stage) (x : ℕ) (y : Option ℕ) → Rebinds n a b → b ≡ Opening x y → (z : Option ℕ) × (a ≡ Opening x z)
rebinds_since n a b x y r e =
    ⊎_elim (λ q. (y, sym q ∙ e)) (λ q. (None, let k : Opening q.0 (Some q.1) ≡ Opening x y = sym q.3 ∙ e in let j : q.0 ≡ x = cc in q.2 ∙ ap (λ i. Opening i None) j)) r

-- where program p alone moves, the others' part stays
pub meant_moves : {m n : Meaning} {current : ℕ} {opened : ℕ → Option ℕ} {since : ℕ → ℕ} {task : ℕ → Task} {taken : ℕ → ℕ} {gone : ℕ → Bool}
    (p current' : ℕ) (opened' : ℕ → Option ℕ) (since' : ℕ → ℕ) (task' : ℕ → Task) (taken' : ℕ → ℕ) (gone' : ℕ → Bool)
    → Frame m p n → Meant current opened since task taken gone m
    → n.current.serial ≡ current'
    → opened' p ≡ opened_at (stage_of n p) → ((q : ℕ) → (q ≡ p → ⊥) → opened' q ≡ opened q)
    → ((a : ℕ) (b : Option ℕ) → stage_of n p ≡ Opening a b → a ≡ since' p) → ((q : ℕ) → (q ≡ p → ⊥) → since' q ≡ since q)
    → task' p ≡ task_at (stage_of n p) → ((q : ℕ) → (q ≡ p → ⊥) → task' q ≡ task q)
    → ((task_at (stage_of n p) ≡ resting → ⊥) → taken' p + left_of n p ≤ allowance n.declared (task_at (stage_of n p))) → ((q : ℕ) → (q ≡ p → ⊥) → taken' q ≡ taken q)
    → ((s : ℕ) → s ≤ current' → times s n.kept + one (gone' s) ≡ 1) → ((s : ℕ) → current' < s → (times s n.kept ≡ 0) × (gone' s ≡ false))
    → Meant current' opened' since' task' taken' gone' n
meant_moves {m} {n} {current} {opened} {since} {task} {taken} {gone} p current' opened' since' task' taken' gone' f i now op oo sp so tp to kp ko kept beyond = record {
  now = now;
  opens = λ q. ⊎_elim (λ e. subst (λ (x : ℕ). opened' x ≡ opened_at (stage_of n x)) (sym e) op)
      (λ ne. oo q ne ∙ i.opens q ∙ sym (rebinds_opened n (stage_of m q) (stage_of n q) (f.others q ne))) (cases_eq q p);
  began = λ q a b h. ⊎_elim (λ e. sp a b (subst (λ (x : ℕ). stage_of n x ≡ Opening a b) e h) ∙ ap since' (sym e))
      (λ ne. let z = rebinds_since n (stage_of m q) (stage_of n q) a b (f.others q ne) h in i.began q a z.0 z.1 ∙ sym (so q ne)) (cases_eq q p);
  about = λ q. ⊎_elim (λ e. subst (λ (x : ℕ). task' x ≡ task_at (stage_of n x)) (sym e) tp)
      (λ ne. to q ne ∙ i.about q ∙ sym (rebinds_task n (stage_of m q) (stage_of n q) (f.others q ne))) (cases_eq q p);
  timely = λ q b. ⊎_elim
      (λ e. subst (λ (x : ℕ). taken' x + left_of n x ≤ allowance n.declared (task_at (stage_of n x))) (sym e) (kp (λ z. b (ap (λ (x : ℕ). task_at (stage_of n x)) e ∙ z))))
      (λ ne. let t = rebinds_task n (stage_of m q) (stage_of n q) (f.others q ne) in
      let u = i.timely q (λ z. b (t ∙ z)) in
      let g : allowance n.declared (task_at (stage_of n q)) ≡ allowance m.declared (task_at (stage_of m q)) = ap (λ (x : Declared). allowance x (task_at (stage_of n q))) f.declared ∙ ap (allowance m.declared) t in
      omega (arith, u, g, ko q ne, f.slower q ne)) (cases_eq q p);
  kept = kept;
  beyond = beyond;
}

-- a call that begins something leaves the others alone
pub begun_stage : (m : Meaning) (p : ℕ) (st : Stage) (most : ℕ) (n : Meaning) → p < length m.stages → Begun m p st most n → stage_of n p ≡ st
begun_stage m p st most n l b = ap (λ (x : Meaning). stage_of x p) b.after ∙ get_or-set_same m.stages p st Idle l

pub begun_others : (m : Meaning) (p : ℕ) (st : Stage) (most : ℕ) (n : Meaning) → Begun m p st most n → (q : ℕ) → (q ≡ p → ⊥) → stage_of n q ≡ stage_of m q
begun_others m p st most n b q ne = ap (λ (x : Meaning). stage_of x q) b.after ∙ get_or-set_other m.stages p q st Idle ne

pub begun_frame : (m : Meaning) (p : ℕ) (st : Stage) (most : ℕ) (n : Meaning) → Begun m p st most n → Frame m p n
begun_frame m p st most n b = record {
  programs = ap (λ (x : Meaning). x.programs) b.after;
  last = ap (λ (x : Meaning). x.last) b.after;
  declared = ap (λ (x : Meaning). x.declared) b.after;
  others = λ q ne. inl (begun_others m p st most n b q ne);
  slower = λ q ne. let e : left_of n q ≡ left_of m q = ap (λ (x : Meaning). left_of x q) b.after ∙ get_or-set_other m.left p q (left_of n p) 0 ne in omega (arith, e);
}

-- a call that begins a task, with no step taken yet
pub meant_begun : {m n : Meaning} {current : ℕ} {opened : ℕ → Option ℕ} {since : ℕ → ℕ} {task : ℕ → Task} {taken : ℕ → ℕ} {gone : ℕ → Bool}
    (p : ℕ) (st : Stage) (most : ℕ) (opened' : ℕ → Option ℕ) (since' : ℕ → ℕ) → p < length m.stages → Begun m p st most n → Meant current opened since task taken gone m
    → opened' p ≡ opened_at st → ((q : ℕ) → (q ≡ p → ⊥) → opened' q ≡ opened q)
    → ((a : ℕ) (b : Option ℕ) → st ≡ Opening a b → a ≡ since' p) → ((q : ℕ) → (q ≡ p → ⊥) → since' q ≡ since q)
    → most ≡ allowance m.declared (task_at st)
    → Meant current opened' since' (at task p (task_at st)) (at taken p 0) gone n
meant_begun {m} {n} {current} {opened} {since} {task} {taken} {gone} p st most opened' since' l b i op oo sp so em =
    let e = begun_stage m p st most n l b in
    let d : n.declared ≡ m.declared = ap (λ (x : Meaning). x.declared) b.after in
    let k : n.kept ≡ m.kept = ap (λ (x : Meaning). x.kept) b.after in
    meant_moves p current opened' since' (at task p (task_at st)) (at taken p 0) gone (begun_frame m p st most n b) i
    (ap (λ (x : Meaning). x.current.serial) b.after ∙ i.now)
    (op ∙ ap opened_at (sym e)) oo
    (λ a c h. sp a c (sym e ∙ h)) so
    (at_same task p (task_at st) ∙ ap task_at (sym e)) (λ q ne. at_other task p (task_at st) q ne)
    (λ z. let g : allowance n.declared (task_at (stage_of n p)) ≡ most = ap (λ (x : Declared). allowance x (task_at (stage_of n p))) d ∙ ap (λ (x : Stage). allowance m.declared (task_at x)) e ∙ sym em in
    omega (arith, at_same taken p 0, b.few, g))
    (λ q ne. at_other taken p 0 q ne)
    (λ s h. ap (λ (x : List Version). times s x + one (gone s)) k ∙ i.kept s h)
    (λ s h. (ap (times s) k ∙ (i.beyond s h).0, (i.beyond s h).1))

module _ {T : Type 0} (S : Story T) (m n : Meaning) (p : ℕ) (laws : Laws m) (seat : p < m.programs) (i : MeantBy S m) where
  here : p < length m.stages
  here = omega (arith, laws.staged, seat)

  pub meant_open : OpenDone m p n → opened_at (stage_of m p) ≡ None → MeantBy (calls_open p S) n
  meant_open b e =
      meant_begun p (Opening m.current.serial None) m.declared.opening S.opened (at S.since p S.current) here b i
      (i.opens p ∙ e) (λ q ne. refl)
      (λ a c h. let z : m.current.serial ≡ a = cc in sym z ∙ i.now ∙ sym (at_same S.since p S.current)) (λ q ne. at_other S.since p S.current q ne)
      refl

  pub meant_publish : (r b : ℕ) → PublishDone m p r n → opened_at (stage_of m p) ≡ Some (serial_of (stage_of m p)) → MeantBy (calls_publish p b S) n
  meant_publish r b d e =
      meant_begun p (Offering r (serial_of (stage_of m p))) m.declared.offering S.opened S.since here d i
      (i.opens p ∙ e) (λ q ne. refl)
      (λ a c h. absurd cc) (λ q ne. refl)
      refl

  pub meant_close : CloseDone m p n → MeantBy (calls_close p S) n
  meant_close d =
      meant_begun p (Closing (serial_of (stage_of m p))) m.declared.closing (at S.opened p None) S.since here d i
      (at_same S.opened p None) (λ q ne. at_other S.opened p None q ne)
      (λ a c h. absurd cc) (λ q ne. refl)
      refl

  -- at rest no step is counted
  at_rest : (st : Stage) (x : ℕ) → stage_of n p ≡ st → task_at st ≡ resting → (task_at (stage_of n p) ≡ resting → ⊥) → x + left_of n p ≤ allowance n.declared (task_at (stage_of n p))
  at_rest st x e r b = absurd (b (ap task_at e ∙ r))

  -- the versions are as they were
  same_kept : n.kept ≡ m.kept → (s : ℕ) → s ≤ S.current → times s n.kept + one (S.gone s) ≡ 1
  same_kept k s h = ap (λ (x : List Version). times s x + one (S.gone s)) k ∙ i.kept s h

  same_beyond : n.kept ≡ m.kept → (s : ℕ) → S.current < s → (times s n.kept ≡ 0) × (S.gone s ≡ false)
  same_beyond k s h = (ap (times s) k ∙ (i.beyond s h).0, (i.beyond s h).1)

  -- a kept serial is not above the current one
  pub kept_low : (s : ℕ) → 0 < times s m.kept → s ≤ S.current
  kept_low s k = ⊎_elim (λ l. absurd (omega (arith, (i.beyond s l).0, k))) (λ l. l) (cases_lt S.current s)

  steps_on : StepDone m p n GoesOn → (task_at (stage_of m p) ≡ resting → ⊥) → MeantBy (tell_step p GoesOn S) n
  steps_on d b =
      let f = d.0 in let c = d.1 in
      let t = rebinds_task n (stage_of m p) (stage_of n p) c.stage in
      meant_moves p S.current S.opened S.since (at S.task p (S.task p)) (at S.taken p (S.taken p + 1)) S.gone f i
      (ap (λ (v : Version). v.serial) c.versions.current ∙ i.now)
      (i.opens p ∙ sym (rebinds_opened n (stage_of m p) (stage_of n p) c.stage)) (λ q ne. refl)
      (λ a o h. let z = rebinds_since n (stage_of m p) (stage_of n p) a o c.stage h in i.began p a z.0 z.1) (λ q ne. refl)
      (at_same S.task p (S.task p) ∙ i.about p ∙ sym t) (λ q ne. at_other S.task p (S.task p) q ne)
      (λ z. let g : allowance n.declared (task_at (stage_of n p)) ≡ allowance m.declared (task_at (stage_of m p)) = ap (λ (x : Declared). allowance x (task_at (stage_of n p))) f.declared ∙ ap (allowance m.declared) t in
      omega (arith, at_same S.taken p (S.taken p + 1), i.timely p b, c.fewer, g))
      (λ q ne. at_other S.taken p (S.taken p + 1) q ne)
      (same_kept c.versions.kept) (same_beyond c.versions.kept)

  -- a step that ends with the program at rest at st
  ends : (st : Stage) (current' : ℕ) (opened' : ℕ → Option ℕ) (gone' : ℕ → Bool) → Frame m p n → stage_of n p ≡ st → task_at st ≡ resting → n.current.serial ≡ current'
      → opened' p ≡ opened_at st → ((q : ℕ) → (q ≡ p → ⊥) → opened' q ≡ S.opened q)
      → ((s : ℕ) → s ≤ current' → times s n.kept + one (gone' s) ≡ 1) → ((s : ℕ) → current' < s → (times s n.kept ≡ 0) × (gone' s ≡ false))
      → Meant current' opened' S.since (at S.task p resting) (at S.taken p (S.taken p + 1)) gone' n
  ends st current' opened' gone' f e r now op oo kept beyond =
      meant_moves p current' opened' S.since (at S.task p resting) (at S.taken p (S.taken p + 1)) gone' f i now
      (op ∙ ap opened_at (sym e)) oo
      (λ a o h. absurd (not_opening st a o r (sym e ∙ h))) (λ q ne. refl)
      (at_same S.task p resting ∙ sym r ∙ ap task_at (sym e)) (λ q ne. at_other S.task p resting q ne)
      (at_rest st (at S.taken p (S.taken p + 1) p) e r) (λ q ne. at_other S.taken p (S.taken p + 1) q ne)
      kept beyond
    where
      not_opening : (st : Stage) (a : ℕ) (o : Option ℕ) → task_at st ≡ resting → st ≡ Opening a o → ⊥
      not_opening st a o r h = let q : opening ≡ resting = sym (ap task_at h) ∙ r in cc

  pub meant_step : (o : Outcome) → StepDone m p n o → (task_at (stage_of m p) ≡ resting → ⊥) → MeantBy (tell_step p o S) n
  meant_step GoesOn d b = steps_on d b
  meant_step (Opened s) d b =
      let c = d.1 in
      ends (Open s) S.current (at S.opened p (Some s)) S.gone d.0 c.«is» refl (ap (λ (v : Version). v.serial) c.versions.current ∙ i.now)
      (at_same S.opened p (Some s)) (λ q ne. at_other S.opened p (Some s) q ne) (same_kept c.versions.kept) (same_beyond c.versions.kept)
  meant_step (Accepted t) d b =
      let c = d.1 in
      let et : t ≡ S.current + 1 = omega (arith, c.serial, c.current, i.now) in
      ends (Offered c.over) (S.current + 1) S.opened S.gone d.0 c.«is» refl (ap (λ (v : Version). v.serial) c.replaced ∙ et)
      (i.opens p ∙ ap opened_at c.was) (λ q ne. refl)
      (λ s h. ⊎_elim
      (λ e. let z = i.beyond s (omega (arith, e, et)) in omega (arith, c.added (is_serial s), counts_same s t c.root e, z.0, ap one z.1))
      (λ ne. omega (arith, c.added (is_serial s), counts_other s t c.root ne, i.kept s (omega (arith, h, et, ne)))) (cases_eq s t))
      (λ s h. let z = i.beyond s (omega arith) in (omega (arith, c.added (is_serial s), counts_other s t c.root (λ e. omega (arith, e, et, h)), z.0), z.1))
  meant_step Stale d b =
      let c = d.1 in
      ends (Offered c.over) S.current S.opened S.gone d.0 c.«is» refl (ap (λ (v : Version). v.serial) c.versions.current ∙ i.now)
      (i.opens p ∙ ap opened_at c.was) (λ q ne. refl) (same_kept c.versions.kept) (same_beyond c.versions.kept)
  meant_step Nothing d b =
      let c = d.1 in
      ends Idle S.current S.opened S.gone d.0 c.«is» refl (ap (λ (v : Version). v.serial) c.versions.current ∙ i.now)
      (i.opens p ∙ ap opened_at c.was) (λ q ne. refl) (same_kept c.versions.kept) (same_beyond c.versions.kept)
  meant_step (HandedOut x) d b =
      let c = d.1 in
      ends Idle S.current S.opened (at S.gone x true) d.0 c.«is» refl (ap (λ (v : Version). v.serial) c.current ∙ i.now)
      (i.opens p ∙ ap opened_at c.was) (λ q ne. refl)
      (λ s h. ⊎_elim
      (λ e. let g : at S.gone x true s ≡ true = ap (at S.gone x true) e ∙ at_same S.gone x true in
      omega (arith, c.removed (is_serial s), counts_same s x (root_at x m.kept) e, i.kept s h, ap (λ y. times y m.kept) e, c.kept, ap one g))
      (λ ne. omega (arith, c.removed (is_serial s), counts_other s x (root_at x m.kept) ne, i.kept s h, ap one (at_other S.gone x true s ne))) (cases_eq s x))
      (λ s h. let ne : s ≡ x → ⊥ = λ e. omega (arith, e, kept_low x c.kept, h) in
      (omega (arith, c.removed (is_serial s), counts_other s x (root_at x m.kept) ne, (i.beyond s h).0), at_other S.gone x true s ne ∙ (i.beyond s h).1))
