-- Of an open among other programs' calls: its program stays opening, and each version that it may come to open was current at a
-- moment since its call.
use Rattle.std.proofs.Common.{◌≡◌, ℕ, ◌+◌, ◌<◌, ◌≤◌, Bool, true, false, cond, eqb, List, [], ◌∷◌, ◌++◌, Ok, Err, sym, refl, ap, ◌∙◌, subst, ⊎_elim, arith}
use Rattle.std.proofs.lemmas.Bool.{cases_eq}
use Rattle.std.proofs.lemmas.Bool.Decides.{nat_tests}
use Rattle.keeper.specs.declared.version.Version.{Version}
use Rattle.keeper.specs.declared.stage.Stage.{Stage}
use Rattle.keeper.specs.declared.outcome.Outcome.{Outcome}
use Rattle.keeper.specs.declared.outcome.Outcome.TheVariants.{GoesOn, Opened, Accepted, Stale, Nothing, HandedOut}
use Rattle.keeper.specs.declared.client.Action.{Action}
use Rattle.keeper.specs.declared.client.Action.TheVariants.{Open, Publish, Close, Step}
use Rattle.keeper.specs.Totals.{Added}
use Rattle.keeper.specs.Meaning.{Meaning, Laws, version, same, times, copies, root_at}
use Rattle.keeper.specs.Effects.{Ends, Begun}
use Rattle.keeper.specs.Course.{Course, here, after, Made}

-- a version that is kept has its serial kept
pub copies_times : (v : Version) (xs : List Version) → copies v xs ≤ times v.serial xs
copies_times v [] = omega arith
copies_times v (x ∷ xs) = grind (arith, nat_tests, copies_times v xs)

-- the first kept version of a serial is kept
pub first_kept : (s : ℕ) (xs : List Version) → 0 < times s xs → 0 < copies (version s (root_at s xs)) xs
first_kept s [] h = omega arith
first_kept s (x ∷ xs) h = go (eqb s x.serial) refl (λ h. first_kept s xs h)
  where
    go : (b : Bool) → eqb s x.serial ≡ b → (0 < times s xs → 0 < copies (version s (root_at s xs)) xs)
        → 0 < same (version s (cond b x.root (root_at s xs))) x + copies (version s (cond b x.root (root_at s xs))) xs
    go true e on = grind (arith, nat_tests)
    go false e on = let k : 0 < copies (version s (root_at s xs)) xs = on (grind (arith, nat_tests)) in omega arith

-- of one serial, kept once, there is one version
pub one_root : (v w : Version) (xs : List Version) → v.serial ≡ w.serial → times v.serial xs ≤ 1 → 0 < copies v xs → 0 < copies w xs → v.root ≡ w.root
one_root v w [] e h a b = absurd (omega arith)
one_root v w (x ∷ xs) e h a b = grind (arith, nat_tests, one_root v w xs e, copies_times v xs, copies_times w xs, ap {B = ℕ} (λ s. times s xs) e)

pub one_version : (v w : Version) (xs : List Version) → v.serial ≡ w.serial → times v.serial xs ≤ 1 → 0 < copies v xs → 0 < copies w xs → v ≡ w
one_version v w xs e h a b = let r = one_root v w xs e h a b in λ i. record { serial = e i; root = r i }

-- what a call does to the versions: nothing, or the next one becomes current, or one is kept no longer
pub data Versions (m n : Meaning) : Type 0 where
  unmoved : n.current ≡ m.current → n.kept ≡ m.kept → Versions m n
  grown : (v : Version) → v.serial ≡ m.current.serial + 1 → n.current ≡ v → Added v m.kept n.kept → Versions m n
  shrunk : (v : Version) → n.current ≡ m.current → Added v n.kept m.kept → Versions m n

begun_versions : {m n : Meaning} {p most : ℕ} {st : Stage} → Begun m p st most n → Versions m n
begun_versions b = unmoved (ap (λ x. x.current) b.after) (ap (λ x. x.kept) b.after)

step_versions : (m n : Meaning) (p : ℕ) (o : Outcome) → Ends m p n o → Versions m n
step_versions m n p GoesOn e = unmoved e.versions.current e.versions.kept
step_versions m n p (Opened s) e = unmoved e.versions.current e.versions.kept
step_versions m n p (Accepted t) e = grown (version t e.root) (e.serial ∙ ap (λ x. x + 1) e.current) e.replaced e.added
step_versions m n p Stale e = unmoved e.versions.current e.versions.kept
step_versions m n p Nothing e = unmoved e.versions.current e.versions.kept
step_versions m n p (HandedOut s) e = shrunk (version s (root_at s m.kept)) e.current e.removed

refused_versions : {m n : Meaning} → n ≡ m → Versions m n
refused_versions e = unmoved (ap (λ x. x.current) e) (ap (λ x. x.kept) e)

pub made_versions : (a : Action) (m n : Meaning) → Made a m n → Versions m n
made_versions (Open p) m n (Ok u, says) = begun_versions says.1
made_versions (Open p) m n (Err f, says) = refused_versions says.1
made_versions (Publish p r) m n (Ok u, says) = begun_versions says.1
made_versions (Publish p r) m n (Err f, says) = refused_versions says.1
made_versions (Close p) m n (Ok u, says) = begun_versions says.1
made_versions (Close p) m n (Err f, says) = refused_versions says.1
made_versions (Step p) m n (Ok o, says) = step_versions m n p o says.1.1
made_versions (Step p) m n (Err f, says) = refused_versions says.1

-- w was current at a moment of the course cs from `called` to n
pub record Recall (called : Meaning) (cs : List Action) (n : Meaning) (w : Version) : Type 0 where
  pub moment : Meaning
  pub earlier : List Action
  pub later : List Action
  pub calls : cs ≡ later ++ earlier
  pub before : Course earlier called moment
  pub onward : Course later moment n
  pub current : moment.current ≡ w

-- every kept version with a serial from `since` to the current one was current at a moment of the course
abbrev pub Recalled : Meaning → ℕ → List Action → Meaning → Type 0
Recalled called since cs n = (w : Version) → 0 < copies w n.kept → since ≤ w.serial → w.serial ≤ n.current.serial → Recall called cs n w

recall_now : {called n : Meaning} {cs : List Action} {w : Version} → Course cs called n → Laws n → n.current ≡ w → Recall called cs n w
recall_now {n = n} {cs = cs} course laws e = record {
  moment = n;
  earlier = cs;
  later = [];
  calls = refl;
  before = course;
  onward = here laws;
  current = e;
}

recall_on : {called n o : Meaning} {cs : List Action} {w : Version} (a : Action) → Recall called cs n w → Made a n o → Laws o → Recall called (a ∷ cs) o w
recall_on a r made laws = record {
  moment = r.moment;
  earlier = r.earlier;
  later = a ∷ r.later;
  calls = ap (λ cs. a ∷ cs) r.calls;
  before = r.before;
  onward = after a r.onward made laws;
  current = r.current;
}

pub recalled_at_call : (n : Meaning) → Laws n → Recalled n n.current.serial [] n
recalled_at_call n laws w kept from to =
    recall_now (here laws) laws (one_version n.current w n.kept (omega arith) (laws.once n.current.serial) laws.current kept)

pub recalled_on : (called n o : Meaning) (since : ℕ) (cs : List Action) (a : Action) → Course cs called n → Recalled called since cs n → Made a n o → Laws o → Recalled called since (a ∷ cs) o
recalled_on called n o since cs a course old made laws = go (made_versions a n o made)
  where
    go : Versions n o → Recalled called since (a ∷ cs) o
    go (unmoved c k) w kept from to =
        recall_on a (old w (subst (λ (xs : List Version). 0 < copies w xs) k kept) from (subst (λ (v : Version). w.serial ≤ v.serial) c to)) made laws
    go (shrunk v c k) w kept from to =
        recall_on a (old w (omega (arith, k (same w))) from (subst (λ (v : Version). w.serial ≤ v.serial) c to)) made laws
    go (grown v e c k) w kept from to = ⊎_elim
        (λ (new : w.serial ≡ o.current.serial).
        recall_now (after a course made laws) laws (one_version o.current w o.kept (sym new) (laws.once o.current.serial) laws.current kept))
        (λ (ne : w.serial ≡ o.current.serial → ⊥).
        let at : o.current.serial ≡ v.serial = ap (λ x. x.serial) c in
        let less : w.serial ≤ n.current.serial = omega (arith, at, e, ne) in
        let other : same w v ≡ 0 = grind (arith, nat_tests, at, ne) in
        recall_on a (old w (omega (arith, k (same w), other)) from less) made laws)
        (cases_eq w.serial o.current.serial)
