-- The front of a list that is longer than what counts: reading and writing it.
use Rattle.std.proofs.Common.{◌≡◌, ℕ, zero, suc, ◌≤◌, List, [], ◌∷◌, length, get_or, take, set, sym, refl, ap, arith}
use Rattle.std.proofs.lemmas.List.{get_or_past, set_past}

pub front_set : {A : Type 0} (n : ℕ) (xs : List A) (i : ℕ) (y : A) → take n (set xs i y) ≡ set (take n xs) i y
front_set zero xs i y = refl
front_set (suc n) [] i y = refl
front_set (suc n) (x ∷ xs) zero y = refl
front_set (suc n) (x ∷ xs) (suc i) y = ap (λ l. x ∷ l) (front_set n xs i y)

front_short : {A : Type 0} (n : ℕ) (xs : List A) → length (take n xs) ≤ n
front_short zero xs = omega arith
front_short (suc n) [] = omega arith
front_short (suc n) (x ∷ xs) = omega (arith, front_short n xs)

-- beyond the front nothing is read, and nothing is written
pub front_past : {A : Type 0} (n : ℕ) (xs : List A) (i : ℕ) (d : A) → n ≤ i → get_or (take n xs) i d ≡ d
front_past n xs i d h = get_or_past (take n xs) i d (omega (arith, front_short n xs))

pub front_kept : {A : Type 0} (n : ℕ) (xs : List A) (i : ℕ) (y : A) → n ≤ i → take n xs ≡ set (take n xs) i y
front_kept n xs i y h = sym (set_past (take n xs) i y (omega (arith, front_short n xs)))
