-- The rows of a world after one of them was written.
use Rattle.std.proofs.Common.{◌≡◌, ℕ, zero, suc, ◌<◌, List, length, get_or, set, replicate, None, Option, sym, refl, ap, ◌∙◌, ⊎_elim}
use Rattle.std.proofs.lemmas.List.{get_or-set_same, get_or-set_other}
use Rattle.std.proofs.lemmas.Bool.{cases_eq}
use Rattle.exchange_theory.specs.declared.row.Row.{Row}
use Rattle.exchange_theory.specs.World.{World, row_at, with_row, emptied}

pub row_same : {T : Type 0} (w : World T) (p : ℕ) (r : Row) → p < length w.rows → row_at (with_row p r w) p ≡ r
row_same w p r l = get_or-set_same w.rows p r (emptied 0 0) l

pub row_other : {T : Type 0} (w : World T) (p : ℕ) (r : Row) (q : ℕ) → (q ≡ p → ⊥) → row_at (with_row p r w) q ≡ row_at w q
row_other w p r q ne = get_or-set_other w.rows p q r (emptied 0 0) ne

-- a part that the new row has as the old one had it
pub part_kept : {T A : Type 0} (part : Row → A) (w : World T) (p : ℕ) (r : Row) → p < length w.rows → part r ≡ part (row_at w p) → (q : ℕ) → part (row_at (with_row p r w) q) ≡ part (row_at w q)
part_kept part w p r l e q =
    ⊎_elim
    (λ z. ap (λ i. part (row_at (with_row p r w) i)) z ∙ ap part (row_same w p r l) ∙ e ∙ ap (λ i. part (row_at w i)) (sym z))
    (λ ne. ap part (row_other w p r q ne))
    (cases_eq q p)

-- what a row's places name, where one of them was written
pub place_same : {T : Type 0} (part : Row → List (Option ℕ)) (w : World T) (p : ℕ) (r : Row) (a : ℕ) (o : Option ℕ) → p < length w.rows → a < length (part (row_at w p)) → part r ≡ set (part (row_at w p)) a o
    → get_or (part (row_at (with_row p r w) p)) a None ≡ o
place_same part w p r a o l la e = ap (λ (x : Row). get_or (part x) a None) (row_same w p r l) ∙ ap (λ (os : List (Option ℕ)). get_or os a None) e ∙ get_or-set_same (part (row_at w p)) a o None la

pub place_other : {T : Type 0} (part : Row → List (Option ℕ)) (w : World T) (p : ℕ) (r : Row) (a : ℕ) (o : Option ℕ) → p < length w.rows → part r ≡ set (part (row_at w p)) a o
    → (q b : ℕ) → (q ≡ p → b ≡ a → ⊥) → get_or (part (row_at (with_row p r w) q)) b None ≡ get_or (part (row_at w q)) b None
place_other part w p r a o l e q b n =
    ⊎_elim
    (λ z. ap (λ i. get_or (part (row_at (with_row p r w) i)) b None) z ∙ ap (λ (x : Row). get_or (part x) b None) (row_same w p r l) ∙ ap (λ (os : List (Option ℕ)). get_or os b None) e
    ∙ get_or-set_other (part (row_at w p)) a b o None (n z) ∙ ap (λ i. get_or (part (row_at w i)) b None) (sym z))
    (λ ne. ap (λ (x : Row). get_or (part x) b None) (row_other w p r q ne))
    (cases_eq q p)

-- every place of many is empty
pub all_none : (n i : ℕ) → ◌≡◌ {A = Option ℕ} (get_or (replicate n None) i None) None
all_none zero i = refl
all_none (suc n) zero = refl
all_none (suc n) (suc i) = all_none n i
