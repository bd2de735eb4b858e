-- A walk over programs, from the first to the last.
use Rattle.std.proofs.Common.{◌≡◌, ℕ, zero, suc, ◌+◌, Bool, true, false, ◌&&◌, refl, ap, ◌∙◌, arith}
use Rattle.std.specs.List.{list_all, range_with_len}
use Rattle.keeper.specs.Stages.{idle}
use Rattle.keeper.specs.Meaning.{Meaning, stage_of}
use Rattle.exchange_theory.specs.Make.{idle_below}

-- a number more at the end of a range
all_more : (test : ℕ → Bool) (a n : ℕ) → list_all test (range_with_len a (suc n)) ≡ (list_all test (range_with_len a n) && test (a + n))
all_more test a zero = let e : a + 0 ≡ a = omega arith in rw e (last (test a))
  where
    last : (b : Bool) → (b && true) ≡ b
    last true = refl
    last false = refl
all_more test a (suc n) =
    let e : a + 1 + n ≡ a + suc n = omega arith in
    ap (λ b. test a && b) (all_more test (a + 1) n ∙ ap (λ i. list_all test (range_with_len (a + 1) n) && test i) e) ∙ regroup (test a) (list_all test (range_with_len (a + 1) n)) (test (a + suc n))
  where
    regroup : (a b c : Bool) → (a && (b && c)) ≡ ((a && b) && c)
    regroup true b c = refl
    regroup false b c = refl

pub all_idle : (m : Meaning) (n : ℕ) → list_all (λ p. idle (stage_of m p)) (range_with_len 0 n) ≡ idle_below m n
all_idle m zero = refl
all_idle m (suc n) =
    let e : 0 + n ≡ n = omega arith in
    all_more (λ p. idle (stage_of m p)) 0 n ∙ ap (λ b. b && idle (stage_of m (0 + n))) (all_idle m n) ∙ ap (λ i. idle_below m n && idle (stage_of m i)) e
