-- The number that a text writes.
use Rattle.std.proofs.Common.{◌≡◌, ℕ, ◌+◌, ◌^◌, ◌<◌, ◌≤◌, Bool, true, false, cond, leb, ◌⊎◌, List, [], ◌∷◌, ◌++◌, length, get_or, drop, Some, None, decimal, Option, sym, refl, ap, ◌∙◌, inl, inr, arith, rules}
use Rattle.std.proofs.lemmas.Fmt.{decimal-digits_value, decimal_digit, decimal_nonempty, digits_decimal, first_decimal, digits_value-decimal}
use Rattle.std.proofs.lemmas.List.{at_drop_more, at_drop_all}
use Rattle.std.proofs.lemmas.Str.Parse.{IsNumeralModel, numerals_by_fold, not_in_digits}
use Rattle.std.proofs.lemmas.Bool.{and_parts, and_from, le-leb, leb-true, cases_lt, ne_eqb}
use Rattle.std.specs.Char.{is_ascii_digit}
use Rattle.std.specs.Str.{all_ascii_digits}
use Rattle.std.proofs.lemmas.Bool.Decides.{nat_tests}
use Rattle.schedule.specs.Lines.{Numbered}
use Rattle.schedule.specs.Pieces.{and_then, lead_in, longer, number_in, plain, with_digit, with_digits}
use Rattle.schedule.proofs.Marks.{after_cut, cut_apart}
use Rattle.std.proofs.lemmas.Option.{none-some}
use Rattle.schedule.proofs.Steps.{after_step}

-- one digit on
pub digits_more : (most n : ℕ) (text : List ℕ) (i : ℕ) (r : Option ℕ) → i < length text → r ≡ with_digit most n (get_or text i 0) → with_digits most n (drop i text) ≡ and_then r (λ m. with_digits most m (drop (i + 1) text))
digits_more most n text i r h e =
    at_drop_more (with_digits most n) text i 0 h
    ∙ ap (λ (o : Option ℕ). and_then o (λ m. with_digits most m (drop (i + 1) text))) (sym e)

-- at the end
pub digits_all : (most n : ℕ) (text : List ℕ) (i : ℕ) → length text ≤ i → with_digits most n (drop i text) ≡ Some n
digits_all most n text i h = at_drop_all (with_digits most n) text i h

-- the number that digits write behind n
abbrev value_on : ℕ → List ℕ → ℕ
value_on n [] = n
value_on n (b ∷ bs) = value_on (longer n b) bs

-- texts of digits and their values, in std's words
own : IsNumeralModel (λ ds. all_ascii_digits ds ≡ true) (value_on 0)
own = numerals_by_fold _ (search rules) value_on (search rules)

grows : (n : ℕ) (ds : List ℕ) → n ≤ value_on n ds
grows n [] = omega arith
grows n (b ∷ bs) = omega (arith, grows (longer n b) bs)

-- what is read behind n as m: digits, of that value
record Counts (most n : ℕ) (ds : List ℕ) (m : ℕ) : Type 0 where
  digits : all_ascii_digits ds ≡ true
  value : value_on n ds ≡ m
  few : m ≤ most

counts : (most n : ℕ) (ds : List ℕ) (m : ℕ) → n ≤ most → with_digits most n ds ≡ Some m → Counts most n ds m
counts most n [] m h e = let s : n ≡ m = cc in record { digits = refl; value = s; few = omega arith }
counts most n (b ∷ bs) m h e = go (is_ascii_digit b) (leb (longer n b) most) refl refl (λ k. counts most (longer n b) bs m k) e
  where
    go : (d f : Bool) → is_ascii_digit b ≡ d → leb (longer n b) most ≡ f → (longer n b ≤ most → with_digits most (longer n b) bs ≡ Some m → Counts most (longer n b) bs m) → and_then (cond d (cond f (Some (longer n b)) None) None) (λ k. with_digits most k bs) ≡ Some m → Counts most n (b ∷ bs) m
    go false f isd isf on e = absurd (none-some m e)
    go true false isd isf on e = absurd (none-some m e)
    go true true isd isf on e =
        let r = on (leb-true _ _ isf) e in
        record { digits = and_from _ _ isd r.digits; value = r.value; few = r.few }

-- and digits of a value that is not too large are read
counted : (most n : ℕ) (ds : List ℕ) → all_ascii_digits ds ≡ true → value_on n ds ≤ most → with_digits most n ds ≡ Some (value_on n ds)
counted most n [] d h = refl
counted most n (b ∷ bs) d h =
    let p = and_parts (is_ascii_digit b) (all_ascii_digits bs) d in
    let f : leb (longer n b) most ≡ true = le-leb (longer n b) most (omega (arith, grows (longer n b) bs)) in
    rw (p.0, f) (counted most (longer n b) bs p.1 h)

plain_some : (ds : List ℕ) → plain ds ≡ true → 0 < length ds
plain_some [] e = let z : ◌≡◌ {A = ℕ} 0 1 = cc in absurd (omega arith)
plain_some (b ∷ bs) e = omega arith

plain_first : (ds : List ℕ) → plain ds ≡ true → get_or ds 0 0 ≡ 48 → length ds ≡ 1
plain_first [] e z = let z : ◌≡◌ {A = ℕ} 0 1 = cc in absurd (omega arith)
plain_first (b ∷ []) e z = refl
plain_first (b ∷ c ∷ bs) e z = absurd (grind arith)

plain_from : (ds : List ℕ) → 0 < length ds → (get_or ds 0 0 ≡ 48 → length ds ≡ 1) → plain ds ≡ true
plain_from [] h first = absurd (omega arith)
plain_from (b ∷ []) h first = refl
plain_from (b ∷ c ∷ bs) h first = rw (ne_eqb b 48 (λ e. omega (arith, first e)))

-- a number's decimal form is read as the number
pub number_back : (most n : ℕ) → most < 2 ^ 64 → n ≤ most → number_in most (decimal n) ≡ Some n
number_back most n wide few =
    let small : n < 2 ^ 64 = omega arith in
    let v : value_on 0 (decimal n) ≡ n = digits_value-decimal own n small in
    let first : get_or (decimal n) 0 0 ≡ 48 → length (decimal n) ≡ 1 = λ e. front e (cases_lt 0 n) in
    let p : plain (decimal n) ≡ true = plain_from (decimal n) (decimal_nonempty n small) first in
    let c : with_digits most 0 (decimal n) ≡ Some (value_on 0 (decimal n)) = counted most 0 (decimal n) (digits_decimal own n small) (omega arith) in
    rw p (c ∙ ap Some v)
  where
    front : get_or (decimal n) 0 0 ≡ 48 → (0 < n) ⊎ (n ≤ 0) → length (decimal n) ≡ 1
    front e (inl pos) = absurd (omega (arith, first_decimal n pos (omega arith)))
    front e (inr zero) = ap length (decimal_digit n (omega arith))

-- what is read as a number is its decimal form
pub number_form : (most n : ℕ) (text : List ℕ) → most < 2 ^ 64 → number_in most text ≡ Some n → (text ≡ decimal n) × (n ≤ most)
number_form most n text wide e = go (plain text) refl e
  where
    go : (p : Bool) → plain text ≡ p → cond p (with_digits most 0 text) None ≡ Some n → (text ≡ decimal n) × (n ≤ most)
    go false is e = absurd (none-some n e)
    go true is e =
        let r = counts most 0 text n (omega arith) e in
        let d : decimal (value_on 0 text) ≡ text = decimal-digits_value own text r.digits (plain_some text is) (plain_first text is) (omega (arith, r.value, r.few)) in
        (sym d ∙ ap decimal r.value, r.few)

-- the number's contract
pub numbered : (most : ℕ) (text : List ℕ) (r : Option ℕ) → most < 2 ^ 64 → r ≡ number_in most text → Numbered most text r
numbered most text (Some n) wide e = number_form most n text wide (sym e)
numbered most text None wide e = λ n few is.
    absurd (none-some n (e ∙ ap (number_in most) is ∙ number_back most n wide few))

-- what is read after a number
pub after_number : {A : Type 0} (most : ℕ) (text : List ℕ) (f : ℕ → Option A) (b : A) (Goal : Type 0) → most < 2 ^ 64 → and_then (number_in most text) f ≡ Some b → ((n : ℕ) → text ≡ decimal n → f n ≡ Some b → Goal) → Goal
after_number most text f b Goal wide e k = after_step (number_in most text) f b Goal e (λ n is e. k n (number_form most n text wide is).0 e)

-- a mark that is no digit stands in no number
no_mark : (n mark : ℕ) → n < 2 ^ 64 → is_ascii_digit mark ≡ false → (i : ℕ) → i < length (decimal n) → get_or (decimal n) i 0 ≡ mark → ⊥
no_mark n mark small other = not_in_digits own (decimal n) mark (digits_decimal own n small) (λ h. grind (arith, nat_tests))

-- a number and a mark in front of any rest
pub lead_back : (mark most n : ℕ) (rest : List ℕ) → is_ascii_digit mark ≡ false → most < 2 ^ 64 → n ≤ most → lead_in mark most (decimal n ++ (mark ∷ rest)) ≡ Some (n, rest)
lead_back mark most n rest other wide few =
    rw (cut_apart mark (decimal n) rest (no_mark n mark (omega arith) other), number_back most n wide few)

-- what is read after a number and a mark
pub after_lead : {A : Type 0} (mark most : ℕ) (text : List ℕ) (f : ℕ × List ℕ → Option A) (b : A) (Goal : Type 0) → most < 2 ^ 64 → and_then (lead_in mark most text) f ≡ Some b → ((n : ℕ) (rest : List ℕ) → text ≡ decimal n ++ (mark ∷ rest) → f (n, rest) ≡ Some b → Goal) → Goal
after_lead mark most text f b Goal wide e k =
    after_step (lead_in mark most text) f b Goal e (λ p is then.
    after_cut mark text _ p Goal is (λ front rest whole is.
    after_number most front _ p Goal wide is (λ n form is.
    let pair : ◌≡◌ {A = ℕ × List ℕ} (n, rest) p = cc in
    let first : front ++ (mark ∷ rest) ≡ decimal n ++ (mark ∷ rest) = ap (λ (t : List ℕ). t ++ (mark ∷ rest)) form in
    k n rest (whole ∙ first) (ap f pair ∙ then))))
