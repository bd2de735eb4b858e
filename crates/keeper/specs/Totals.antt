-- Sums over a list. Whatever is counted of a keeper (how often a serial is kept, how many programs use it) is such a sum.
use Rattle.std.specs.Prelude.{◌≡◌, ℕ, ◌+◌, List, [], ◌∷◌}

-- the sum of f over a list: with f 1 or 0, how many of its elements pass
abbrev pub total : {A : Type 0} → (A → ℕ) → List A → ℕ
total f [] = 0
total f (x ∷ xs) = f x + total f xs

-- ys holds what xs holds, and v once more, in any order
abbrev pub Added : {A : Type 0} → A → List A → List A → Type 0
Added v xs ys = (f : _ → ℕ) → total f ys ≡ total f xs + f v
