-- The first element that passes a test.
use Rattle.std.specs.Prelude.{◌≡◌, ℕ, zero, suc, ◌+◌, ◌<◌, ◌≤◌, Bool, true, false, cond, not, List, [], ◌∷◌, length, drop, slice_index_or, Some, None, refl, position}
use Rattle.std.proofs.Common.{arith, tests}
use Rattle.keeper.specs.Totals.{total}
use Rattle.counting.specs.State.{first}

-- a walk that looks for the first, at a place that does not pass, and at one that does
pub first_on : {A : Type 0} (t : A → Bool) (xs : List A) (i : ℕ) (d : A) → i < length xs → t (slice_index_or xs i d) ≡ false → first t (drop i xs) ≡ 1 + first t (drop (suc i) xs)
first_on t [] i d h e = omega arith
first_on t (x ∷ xs) zero d h e = go (t x) e
  where
    go : (b : Bool) → b ≡ false → cond (not b) (1 + first t xs) 0 ≡ 1 + first t xs
    go true e = grind arith
    go false e = refl
first_on t (x ∷ xs) (suc i) d h e = first_on t xs i d (omega arith) e

pub first_at : {A : Type 0} (t : A → Bool) (xs : List A) (i : ℕ) (d : A) → i < length xs → t (slice_index_or xs i d) ≡ true → first t (drop i xs) ≡ 0
first_at t [] i d h e = omega arith
first_at t (x ∷ xs) zero d h e = go (t x) e
  where
    go : (b : Bool) → b ≡ true → cond (not b) (1 + first t xs) 0 ≡ 0
    go true e = refl
    go false e = grind arith
first_at t (x ∷ xs) (suc i) d h e = first_at t xs i d (omega arith) e

-- where something counts of which only elements that pass have any, one passes
pub first_found : {A : Type 0} (t : A → Bool) (f : A → ℕ) → ((x : A) → t x ≡ false → f x ≡ 0) → (xs : List A) → 0 < total f xs → first t xs < length xs
first_found t f none [] h = omega arith
first_found t f none (x ∷ xs) h = go (t x) refl (first_found t f none xs)
  where
    go : (b : Bool) → t x ≡ b → (0 < total f xs → first t xs < length xs) → cond (not b) (1 + first t xs) 0 < suc (length xs)
    go true e ih = omega arith
    go false e ih = omega (arith, ih (omega (arith, none x e)))

-- a search that gave a place gave the first, and one that gave none has no element that passes
pub searched : {A : Type 0} (t : A → Bool) (xs : List A) (i : ℕ) → Some i ≡ position t xs → i ≡ first t xs
searched t xs i e = grind (arith, tests, e)

pub in_vain : {A : Type 0} (t : A → Bool) (xs : List A) → None ≡ position t xs → length xs ≤ first t xs
in_vain t xs e = grind (arith, tests, e)
