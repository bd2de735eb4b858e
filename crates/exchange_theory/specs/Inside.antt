-- Places that name cells below a limit, as tests, so that each has one proof at most.
use Rattle.std.specs.Prelude.{ℕ, Bool, true, ◌&&◌, List, [], ◌∷◌, Some, None, Option, nat_lt}
use Rattle.exchange_theory.specs.declared.row.Row.{Row}

-- a place is empty or names a cell below n
abbrev pub below : ℕ → Option ℕ → Bool
below n None = true
below n (Some c) = nat_lt c n

abbrev pub inside : ℕ → List (Option ℕ) → Bool
inside n [] = true
inside n (o ∷ os) = below n o && inside n os

-- the places of a row name cells below n, and its offered place is one of eight
abbrev pub within : ℕ → Row → Bool
within n r = inside n r.reading && (inside n r.building && nat_lt r.offered 8)

abbrev pub all_within : ℕ → List Row → Bool
all_within n [] = true
all_within n (r ∷ rs) = within n r && all_within n rs
