-- A text cut at a mark.
use Rattle.std.proofs.Common.{◌≡◌, ℕ, zero, suc, position, tests, ◌==◌, ◌+◌, ◌-◌, ◌<◌, ◌≤◌, Bool, true, false, cond, eqb, List, [], ◌∷◌, ◌++◌, length, get_or, take, drop, Some, None, Option, sym, refl, ap, ◌∙◌, append_assoc, append-nil, arith}
use native.Mathlib.Nat.{sub-zero}
use Rattle.std.proofs.lemmas.List.{at_drop_more, at_drop_all, take_more, take_rest}
use Rattle.std.specs.List.{position_or_len}
use Rattle.std.proofs.lemmas.List.Quantifiers.{position-Some}
use Rattle.std.proofs.lemmas.List.Sums.{fails_before_first}
use Rattle.std.proofs.lemmas.Bool.{false≢true, cond-true, cond-false, eq-eqb, ne_eqb, eqb-true}
use Rattle.schedule.specs.Pieces.{and_then, cut_at, cut_from}
use Rattle.std.proofs.lemmas.Option.{none-some}
use Rattle.schedule.proofs.Steps.{after_step}

-- past a byte that is not the mark
pub cut_more : (mark : ℕ) (text : List ℕ) (i : ℕ) → i < length text → (get_or text i 0 ≡ mark → ⊥) → cut_from mark (take i text) (drop i text) ≡ cut_from mark (take (i + 1) text) (drop (i + 1) text)
cut_more mark text i h ne =
    at_drop_more (cut_from mark (take i text)) text i 0 h
    ∙ cond-false (eqb (get_or text i 0) mark) _ _ (ne_eqb _ _ ne)
    ∙ ap (λ (front : List ℕ). cut_from mark front (drop (i + 1) text)) (sym (take_more text i 0 h))

-- at the mark
pub cut_here : (mark : ℕ) (text : List ℕ) (i : ℕ) → i < length text → get_or text i 0 ≡ mark → cut_from mark (take i text) (drop i text) ≡ Some (take (i - 0) text, take (length text - (i + 1)) (drop (i + 1) text))
cut_here mark text i h e =
    rw (sub-zero, take_rest)
    (at_drop_more (cut_from mark (take i text)) text i 0 h ∙ cond-true (eqb (get_or text i 0) mark) _ _ (eq-eqb _ _ e))

-- at the end
pub cut_none : (mark : ℕ) (text : List ℕ) (i : ℕ) → length text ≤ i → cut_from mark (take i text) (drop i text) ≡ None
cut_none mark text i h = at_drop_all (cut_from mark (take i text)) text i h

-- past bytes that are not the mark
cut_passed : (mark : ℕ) (text : List ℕ) (k : ℕ) → ((j : ℕ) → j < k → eqb (get_or text j 0) mark ≡ false) → k ≤ length text → cut_at mark text ≡ cut_from mark (take k text) (drop k text)
cut_passed mark text zero free h = refl
cut_passed mark text (suc k) free h =
    let e : k + 1 ≡ suc k = omega arith in
    cut_passed mark text k (λ j l. free j (omega arith)) (omega arith)
    ∙ cut_more mark text k (omega arith) (λ is. absurd (false≢true (sym (free k (omega arith)) ∙ eq-eqb _ _ is)))
    ∙ ap (λ i. cut_from mark (take i text) (drop i text)) e

-- at the first mark
pub cut_first : (mark : ℕ) (text : List ℕ) (i : ℕ) → position (λ b. b == mark) text ≡ Some i → cut_at mark text ≡ Some (take i text, take (length text - (i + 1)) (drop (i + 1) text))
cut_first mark text i e =
    let at = position-Some (λ b. b == mark) text i 0 e in
    cut_passed mark text i at.2 (omega (arith, at.0)) ∙ rw sub-zero at (cut_here mark text i at.0 (eqb-true _ _ at.1))

-- where there is none
pub cut_nowhere : (mark : ℕ) (text : List ℕ) → position (λ b. b == mark) text ≡ None → cut_at mark text ≡ None
cut_nowhere mark text e =
    let far : length text ≤ position_or_len (λ b. b == mark) text = grind (arith, tests, e) in
    cut_passed mark text (length text) (λ j l. fails_before_first (λ b. b == mark) text j 0 (omega (arith, l, far))) (omega arith)
    ∙ cut_none mark text (length text) (omega arith)

-- the parts with the mark between them are the text
pub cut_joins : (mark : ℕ) (front text : List ℕ) (p : List ℕ × List ℕ) → cut_from mark front text ≡ Some p → front ++ text ≡ p.0 ++ (mark ∷ p.1)
cut_joins mark front [] p e = absurd (none-some p e)
cut_joins mark front (b ∷ bs) p e = go (eqb b mark) refl (cut_joins mark (front ++ (b ∷ [])) bs p) e
  where
    go : (t : Bool) → eqb b mark ≡ t → (cut_from mark (front ++ (b ∷ [])) bs ≡ Some p → (front ++ (b ∷ [])) ++ bs ≡ p.0 ++ (mark ∷ p.1)) → cond t (Some (front, bs)) (cut_from mark (front ++ (b ∷ [])) bs) ≡ Some p → front ++ (b ∷ bs) ≡ p.0 ++ (mark ∷ p.1)
    go true is on e = let q : ◌≡◌ {A = List ℕ × List ℕ} (front, bs) p = cc in rw (eqb-true b mark is) (ap (λ (q : List ℕ × List ℕ). q.0 ++ (mark ∷ q.1)) q)
    go false is on e = sym (append_assoc front (b ∷ []) bs) ∙ on e

-- what is read after a cut
pub after_cut : {A : Type 0} (mark : ℕ) (text : List ℕ) (f : List ℕ × List ℕ → Option A) (b : A) (Goal : Type 0) → and_then (cut_at mark text) f ≡ Some b → ((front rest : List ℕ) → text ≡ front ++ (mark ∷ rest) → f (front, rest) ≡ Some b → Goal) → Goal
after_cut mark text f b Goal e k = after_step (cut_at mark text) f b Goal e (λ p is e. k p.0 p.1 (cut_joins mark [] text p is) e)

-- a front without the mark is what stands before it
cut_passes : (mark : ℕ) (front a b : List ℕ) → ((i : ℕ) → i < length a → get_or a i 0 ≡ mark → ⊥) → cut_from mark front (a ++ (mark ∷ b)) ≡ Some (front ++ a, b)
cut_passes mark front [] b free = rw append-nil (cond-true (eqb mark mark) _ _ (eq-eqb mark mark refl))
cut_passes mark front (x ∷ a) b free =
    cond-false (eqb x mark) _ _ (ne_eqb x mark (free 0 (omega arith)))
    ∙ cut_passes mark (front ++ (x ∷ [])) a b (λ i h. free (suc i) (omega arith))
    ∙ rw append_assoc

pub cut_apart : (mark : ℕ) (a b : List ℕ) → ((i : ℕ) → i < length a → get_or a i 0 ≡ mark → ⊥) → cut_at mark (a ++ (mark ∷ b)) ≡ Some (a, b)
cut_apart mark a b free = cut_passes mark [] a b free
