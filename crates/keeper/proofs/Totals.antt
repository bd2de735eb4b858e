-- Sums over a list under a change at one place.
use Rattle.std.proofs.Common.{◌≡◌, ℕ, zero, suc, ◌+◌, ◌<◌, ◌≤◌, List, [], ◌∷◌, map, length, get_or, set, refl, arith, ⊎_elim}
use Rattle.std.proofs.lemmas.Bool.{cases_lt}
use Rattle.keeper.specs.Totals.{total}

pub total_set : {A : Type 0} (f : A → ℕ) (xs : List A) (i : ℕ) (y d : A) → i < length xs → total f (set xs i y) + f (get_or xs i d) ≡ total f xs + f y
total_set f [] i y d h = omega arith
total_set f (x ∷ xs) zero y d h = omega arith
total_set f (x ∷ xs) (suc i) y d h = omega (arith, total_set f xs i y d (omega arith))

pub total_at : {A : Type 0} (f : A → ℕ) (xs : List A) (i : ℕ) (d : A) → i < length xs → f (get_or xs i d) ≤ total f xs
total_at f [] i d h = omega arith
total_at f (x ∷ xs) zero d h = omega arith
total_at f (x ∷ xs) (suc i) d h = omega (arith, total_at f xs i d (omega arith))

-- what has some in all has some in one place
pub total_find : {A : Type 0} (f : A → ℕ) (xs : List A) (d : A) → 0 < total f xs → (i : ℕ) × (i < length xs) × (0 < f (get_or xs i d))
total_find f [] d h = absurd (omega arith)
total_find f (x ∷ xs) d h =
    ⊎_elim (λ p. (0, omega arith, p))
    (λ n. let r = total_find f xs d (omega arith) in (suc r.0, omega (arith, r.1), r.2))
    (cases_lt 0 (f x))

pub get_d_map : {A B : Type 0} (f : A → B) (xs : List A) (i : ℕ) (d : A) → get_or (map f xs) i (f d) ≡ f (get_or xs i d)
get_d_map f [] i d = refl
get_d_map f (x ∷ xs) zero d = refl
get_d_map f (x ∷ xs) (suc i) d = get_d_map f xs i d
