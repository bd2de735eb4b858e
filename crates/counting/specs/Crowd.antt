-- Rows count no more programs than there are, so that one of P + 1 rows is empty where the current one is used.
use Rattle.std.specs.Prelude.{◌≡◌, ℕ, ◌+◌, ◌≤◌, true, cond, List, [], ◌∷◌, length, Some, None, Option, ◌==◌, ◌≢◌, nat_eq}
use Rattle.std.proofs.Math.Path.{refl}
use Rattle.std.proofs.Common.{⊎_elim, arith}
use Rattle.std.proofs.lemmas.Bool.{cases_eq, eq-eqb, ne_eqb}
use Rattle.std.proofs.lemmas.Bool.Decides.{nat_tests}
use Rattle.keeper.specs.Totals.{total}
use Rattle.keeper.specs.Stages.{named}
use Rattle.keeper.specs.Meaning.{is_serial}
use Rattle.counting.specs.declared.rows.Row.{Row}
use Rattle.counting.specs.State.{on_row, used_by, empty}
use Rattle.counting.specs.Moves.{count}

-- a serial that no row holds is counted nowhere
pub unheld : (s : ℕ) (rs : List (Option Row)) → total (on_row (is_serial s)) rs ≡ 0 → total (used_by s) rs ≡ 0
unheld s [] h = refl
unheld s (None ∷ rs) h = omega (arith, unheld s rs (omega arith))
unheld s (Some row ∷ rs) h = grind (arith, nat_tests, unheld s rs)

abbrev pub vacancy : Option Row → ℕ
vacancy r = cond (empty r) 1 0

module _ {A : Type 0} (key : A → Option ℕ) where
  abbrev pub by : ℕ → A → ℕ
  by s x = named s (key x)

  -- the elements whose key is not s
  apart : ℕ → List A → List A
  apart s [] = []
  apart s (x ∷ xs) = cond (by s x == 0) (x ∷ apart s xs) (apart s xs)

  named_one : (s : ℕ) (k : Option ℕ) → named s k ≤ 1
  named_one s None = omega arith
  named_one s (Some b) = grind (arith, nat_tests)

  named_other : (s t : ℕ) (k : Option ℕ) → (t ≢ s) → (named s k ≢ 0) → named t k ≡ 0
  named_other s t None ne h = refl
  named_other s t (Some b) ne h = grind (arith, nat_tests)

  apart_length : (s : ℕ) (xs : List A) → total (by s) xs + length (apart s xs) ≡ length xs
  unfolding apart
  apart_length s [] = refl
  apart_length s (x ∷ xs) = grind (arith, nat_tests, apart_length s xs, named_one s (key x))

  apart_total : (s t : ℕ) → (t ≢ s) → (xs : List A) → total (by t) (apart s xs) ≡ total (by t) xs
  unfolding apart
  apart_total s t ne [] = refl
  apart_total s t ne (x ∷ xs) = grind (arith, nat_tests, apart_total s t ne xs, named_other s t (key x) ne)

  pub crowd : (rs : List (Option Row)) (xs : List A) → ((s : ℕ) → total (on_row (is_serial s)) rs ≤ 1) → ((s : ℕ) → total (used_by s) rs ≤ total (by s) xs) → total count rs ≤ length xs
  crowd [] xs once fits = omega arith
  crowd (None ∷ rs) xs once fits = omega (arith, crowd rs xs (λ s. omega (arith, once s)) (λ s. omega (arith, fits s)))
  crowd (Some row ∷ rs) xs once fits = omega (arith, apart_length row.version.serial xs, own, crowd rs (apart row.version.serial xs) (λ s. omega (arith, once s)) others)
    where
      self : nat_eq row.version.serial row.version.serial ≡ true
      self = eq-eqb row.version.serial row.version.serial refl

      gone : total (on_row (is_serial row.version.serial)) rs ≡ 0
      gone = grind (arith, once row.version.serial, self)

      own : row.users ≤ total (by row.version.serial) xs
      own = grind (arith, fits row.version.serial, self)

      others : (s : ℕ) → total (used_by s) rs ≤ total (by s) (apart row.version.serial xs)
      others s = ⊎_elim
          (λ e. grind (arith, e, unheld row.version.serial rs gone))
          (λ ne. omega (arith, fits s, apart_total row.version.serial s ne xs))
          (cases_eq s row.version.serial)

-- each row is empty or counts some program
pub rows_fill : (rs : List (Option Row)) → ((s : ℕ) → total (on_row (is_serial s)) rs ≤ 1) → ((s : ℕ) → total (on_row (is_serial s)) rs ≤ total (used_by s) rs) → length rs ≤ total count rs + total vacancy rs
rows_fill [] once full = omega arith
rows_fill (None ∷ rs) once full = omega (arith, rows_fill rs (λ s. omega (arith, once s)) (λ s. omega (arith, full s)))
rows_fill (Some row ∷ rs) once full = omega (arith, own, rows_fill rs (λ s. omega (arith, once s)) others)
  where
    self : nat_eq row.version.serial row.version.serial ≡ true
    self = eq-eqb row.version.serial row.version.serial refl

    gone : total (on_row (is_serial row.version.serial)) rs ≡ 0
    gone = grind (arith, once row.version.serial, self)

    own : 1 ≤ row.users
    own = grind (arith, full row.version.serial, self, gone, unheld row.version.serial rs gone)

    others : (s : ℕ) → total (on_row (is_serial s)) rs ≤ total (used_by s) rs
    others s = ⊎_elim
        (λ e. grind (arith, e, gone))
        (λ ne. grind (arith, full s, ne_eqb s row.version.serial ne))
        (cases_eq s row.version.serial)
