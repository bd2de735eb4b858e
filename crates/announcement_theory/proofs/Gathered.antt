-- What is gathered from places in a row.
use Rattle.std.proofs.Common.{◌≡◌, ℕ, zero, suc, ◌+◌, ◌<◌, ◌≤◌, Bool, true, false, cond, eqb, List, [], ◌∷◌, Some, None, Option, sym, refl, ap, ◌∙◌, ⊎_elim, arith}
use Rattle.std.proofs.lemmas.Bool.{cases_eq, ne_eqb, eqb-true}
use Rattle.std.proofs.lemmas.Bool.Decides.{nat_tests}
use Rattle.keeper.proofs.Recall.{copies_times}
use Rattle.keeper.specs.Totals.{total}
use Rattle.keeper.specs.declared.version.Version.{Version}
use Rattle.keeper.specs.Meaning.{is_serial, same, times, copies, root_at}
use Rattle.announcement_theory.specs.Means.{ahead, gathered}

-- the sum over what one place has
abbrev pub one : (Version → ℕ) → Option Version → ℕ
one f None = 0
one f (Some v) = f v

total_one : (f : Version → ℕ) (o : Option Version) (vs : List Version) → total f (ahead o vs) ≡ one f o + total f vs
total_one f None vs = omega arith
total_one f (Some v) vs = refl

-- what some place has is there
pub gathered_at : (f : Version → ℕ) (e : ℕ → Option Version) (i n j : ℕ) (v : Version) → i ≤ j → j < i + n → e j ≡ Some v → f v ≤ total f
    (gathered e i n)
gathered_at f e i zero j v l h k = absurd (omega arith)
gathered_at f e i (suc n) j v l h k = ⊎_elim
    (λ (is : j ≡ i). omega (arith, total_one f (e i) (gathered e (suc i) n), ap (one f) (ap e (sym is) ∙ k)))
    (λ (ne : j ≡ i → ⊥). omega (arith, total_one f (e i) (gathered e (suc i) n), gathered_at f e (suc i) n j v (omega arith) (omega arith) k))
    (cases_eq j i)

-- places that agree give the same
pub gathered_same : (e d : ℕ → Option Version) → ((j : ℕ) → e j ≡ d j) → (i n : ℕ) → gathered e i n ≡ gathered d i n
gathered_same e d h i zero = refl
gathered_same e d h i (suc n) = ap (λ o. ahead o (gathered e (suc i) n)) (h i) ∙ ap (ahead (d i)) (gathered_same e d h (suc i) n)

-- the same, where places agree only from i on
gathered_after : (f : Version → ℕ) (e d : ℕ → Option Version) (i n : ℕ) → ((j : ℕ) → i ≤ j → e j ≡ d j) → total f (gathered e i n) ≡ total f
    (gathered d i n)
gathered_after f e d i zero h = refl
gathered_after f e d i (suc n) h =
    let a = total_one f (e i) (gathered e (suc i) n) in
    let b = total_one f (d i) (gathered d (suc i) n) in
    omega (arith, ap (one f) (h i (omega arith)), gathered_after f e d (suc i) n (λ j l. h j (omega arith)))

-- one place more has something
pub gathered_more : (f : Version → ℕ) (e d : ℕ → Option Version) (j : ℕ) (v : Version) → e j ≡ None → d j ≡ Some v
    → ((k : ℕ) → (k ≡ j → ⊥) → d k ≡ e k) → (i n : ℕ) → i ≤ j → j < i + n → total f (gathered d i n) ≡ total f (gathered e i n) + f v
gathered_more f e d j v before after same i zero l h = absurd (omega arith)
gathered_more f e d j v before after same i (suc n) l h = ⊎_elim
    (λ (is : j ≡ i). omega (
      arith,
      total_one f (e i) (gathered e (suc i) n),
      total_one f (d i) (gathered d (suc i) n),
      ap (one f) (ap e (sym is) ∙ before),
      ap (one f) (ap d (sym is) ∙ after),
      gathered_after f d e (suc i) n (λ k m. same k (λ (x : k ≡ j). omega arith)),
    ))
    (λ (ne : j ≡ i → ⊥). omega (
      arith,
      total_one f (e i) (gathered e (suc i) n),
      total_one f (d i) (gathered d (suc i) n),
      ap (one f) (same i (λ (x : i ≡ j). ne (sym x))),
      gathered_more f e d j v before after same (suc i) n (omega arith) (omega arith),
    ))
    (cases_eq j i)

-- a place with a serial that is found
pub record Found (e : ℕ → Option Version) (s : ℕ) : Type 0 where
  pub place : ℕ
  pub version : Version
  pub there : e place ≡ Some version
  pub serial : version.serial ≡ s

pub gathered_found : (e : ℕ → Option Version) (s i n : ℕ) → 0 < total (is_serial s) (gathered e i n) → Found e s
gathered_found e s i zero h = absurd (omega arith)
gathered_found e s i (suc n) h = go (e i) refl (gathered_found e s (suc i) n)
  where
    go : (o : Option Version) → e i ≡ o → (0 < total (is_serial s) (gathered e (suc i) n) → Found e s) → Found e s
    go None k rest = rest (omega (arith, total_one (is_serial s) (e i) (gathered e (suc i) n), ap (one (is_serial s)) k))
    go (Some v) k rest = test (eqb s v.serial) refl
      where
        test : (b : Bool) → eqb s v.serial ≡ b → Found e s
        test true t = record { place = i; version = v; there = k; serial = sym (eqb-true s v.serial t) }
        test false t = rest (omega (
          arith,
          total_one (is_serial s) (e i) (gathered e (suc i) n),
          ap (one (is_serial s)) k,
          ap {B = ℕ}
              (λ b. cond b 1 0) t,
        ))

-- a serial that no place from i on has
gathered_none : (e : ℕ → Option Version) (s i n : ℕ) → ((j : ℕ) (v : Version) → i ≤ j → e j ≡ Some v → v.serial ≡ s → ⊥) → total (is_serial s)
    (gathered e i n) ≡ 0
gathered_none e s i zero h = refl
gathered_none e s i (suc n) h = go (e i) refl (gathered_none e s (suc i) n (λ j v l. h j v (omega arith)))
  where
    go : (o : Option Version) → e i ≡ o → total (is_serial s) (gathered e (suc i) n) ≡ 0 → total (is_serial s) (ahead (e i) (gathered e (suc i) n)) ≡ 0
    go None k rest = omega (arith, total_one (is_serial s) (e i) (gathered e (suc i) n), ap (one (is_serial s)) k)
    go (Some v) k rest = omega (
      arith,
      total_one (is_serial s) (e i) (gathered e (suc i) n),
      ap (one (is_serial s)) k,
      ap {B = ℕ} (λ b. cond b 1 0) (ne_eqb s v.serial (λ (x : s ≡ v.serial). h i v (omega arith) k (sym x))),
    )

-- a serial that at most one place has
pub gathered_once : (e : ℕ → Option Version) (s : ℕ) →
    ((j k : ℕ) (v w : Version) → e j ≡ Some v → e k ≡ Some w → v.serial ≡ s → w.serial ≡ s → j ≡ k)
    → (i n : ℕ) → total (is_serial s) (gathered e i n) ≤ 1
gathered_once e s h i zero = omega arith
gathered_once e s h i (suc n) = go (e i) refl (gathered_once e s h (suc i) n)
  where
    go : (o : Option Version) → e i ≡ o → total (is_serial s) (gathered e (suc i) n) ≤ 1 → total (is_serial s) (ahead (e i) (gathered e (suc i) n)) ≤ 1
    go None k rest = omega (arith, total_one (is_serial s) (e i) (gathered e (suc i) n), ap (one (is_serial s)) k)
    go (Some v) k rest = test (eqb s v.serial) refl
      where
        test : (b : Bool) → eqb s v.serial ≡ b → total (is_serial s) (ahead (e i) (gathered e (suc i) n)) ≤ 1
        test true t =
            let none = gathered_none e s (suc i) n (λ j w l m x. omega (arith, h i j v w k m (sym (eqb-true s v.serial t)) x)) in
            omega (arith, total_one (is_serial s) (e i) (gathered e (suc i) n), ap (one (is_serial s)) k, ap {B = ℕ} (λ b. cond b 1 0) t)
        test false t = omega (arith, total_one (is_serial s) (e i) (gathered e (suc i) n), ap (one (is_serial s)) k, ap {B = ℕ} (λ b. cond b 1 0) t)

-- the root of a serial that is there once
pub root_once : (v : Version) (vs : List Version) → times v.serial vs ≤ 1 → 0 < copies v vs → root_at v.serial vs ≡ v.root
root_once v [] h k = absurd (omega arith)
root_once v (w ∷ vs) h k = go (eqb v.serial w.serial) refl (root_once v vs)
  where
    go : (b : Bool) → eqb v.serial w.serial ≡ b → (times v.serial vs ≤ 1 → 0 < copies v vs → root_at v.serial vs ≡ v.root) → cond b
        w.root (root_at v.serial vs) ≡ v.root
    go true e rest = grind (arith, nat_tests, copies_times v vs)
    go false e rest = rest (grind (arith, nat_tests)) (grind (arith, nat_tests))
