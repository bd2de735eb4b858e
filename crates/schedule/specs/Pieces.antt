-- How the pieces of a line are read: a number, and what stands before and behind a mark.
use Rattle.std.specs.Prelude.{◌≡◌, ℕ, ◌+◌, ◌-◌, ◌*◌, Bool, true, false, cond, not, List, [], ◌∷◌, ◌++◌, Some, None, Option, ◌==◌, nat_le}
use Rattle.std.specs.Borrow.{Bor}
use Rattle.std.specs.Char.{is_ascii_digit}

-- what is read first is handed on
abbrev pub and_then : {A B : Type 0} → Option A → (A → Option B) → Option B
and_then None f = None
and_then (Some a) f = f a

-- n with the digit b behind it, and that number if it is at most `most`
abbrev pub longer : ℕ → ℕ → ℕ
longer n b = 10 * n + (b - 48)

abbrev pub with_digit : ℕ → ℕ → ℕ → Option ℕ
with_digit most n b = cond (is_ascii_digit b) (cond (nat_le (longer n b) most) (Some (longer n b)) None) None

-- n with all the digits of a text behind it
abbrev pub with_digits : ℕ → ℕ → List ℕ → Option ℕ
with_digits most n [] = Some n
with_digits most n (b ∷ bs) = and_then (with_digit most n b) (λ m. with_digits most m bs)

-- not empty, and no 0 before other digits
abbrev pub plain : List ℕ → Bool
plain [] = false
plain (b ∷ []) = true
plain (b ∷ c ∷ bs) = not (b == 48)

-- the number, at most `most`, that a text writes
abbrev pub number_in : ℕ → List ℕ → Option ℕ
number_in most text = cond (plain text) (with_digits most 0 text) None

-- what stands before the first mark, with front before that, and what stands behind it
abbrev pub cut_from : ℕ → List ℕ → List ℕ → Option (List ℕ × List ℕ)
cut_from mark front [] = None
cut_from mark front (b ∷ bs) = cond (b == mark) (Some (front, bs)) (cut_from mark (front ++ (b ∷ [])) bs)

abbrev pub cut_at : ℕ → List ℕ → Option (List ℕ × List ℕ)
cut_at mark text = cut_from mark [] text

abbrev pub Cuts : ℕ → List ℕ → Option (Bor (List ℕ) × Bor (List ℕ)) → Type 0
Cuts mark text (Some p) = cut_at mark text ≡ Some (p.0.now, p.1.now)
Cuts mark text None = cut_at mark text ≡ None

-- the number before the first mark, and what stands behind it
abbrev pub lead_in : ℕ → ℕ → List ℕ → Option (ℕ × List ℕ)
lead_in mark most text = and_then (cut_at mark text) (λ a. and_then (number_in most a.0) (λ n. Some (n, a.1)))

abbrev pub Leads : ℕ → ℕ → List ℕ → Option (ℕ × Bor (List ℕ)) → Type 0
Leads mark most text (Some p) = lead_in mark most text ≡ Some (p.0, p.1.now)
Leads mark most text None = lead_in mark most text ≡ None
