-- How often cells are named: by one field, by four, by all, and in a list; and what one written cell changes.
use Rattle.std.proofs.Common.{◌≡◌, ℕ, zero, suc, ◌+◌, ◌*◌, ◌<◌, ◌≤◌, cond, List, [], ◌∷◌, length, set, sym, refl, ap, ◌∙◌, subst, ⊎_elim, arith}
use Rattle.std.proofs.lemmas.List.{get_or-set_same, get_or-set_other, length-set}
use Rattle.std.proofs.lemmas.Bool.{cases_eq, cases_lt, eq-eqb, ne_eqb}
use Rattle.keeper.proofs.Totals.{total_set, total_at, total_find}
use Rattle.cells_theory.specs.declared.cell.Cell.{Cell}
use Rattle.cells_theory.specs.declared.cell.Field.{Field}
use Rattle.cells_theory.specs.declared.cell.Field.TheVariants as field
use Rattle.cells_theory.specs.Memory.{cell, cell_at, link_at, fields_at, field_at, nth, same, name_of, names_in}
use Rattle.cells_theory.specs.Sound.{times, names_from, naming}

pub same_self : (c : ℕ) → same c c ≡ 1
same_self c = ap {B = ℕ} (λ b. cond b 1 0) (eq-eqb c c refl)

pub same_is : (c d : ℕ) → c ≡ d → same c d ≡ 1
same_is c d e = ap {B = ℕ} (λ b. cond b 1 0) (eq-eqb c d e)

pub same_not : (c d : ℕ) → (c ≡ d → ⊥) → same c d ≡ 0
same_not c d n = ap {B = ℕ} (λ b. cond b 1 0) (ne_eqb c d n)

pub same_low : (c d : ℕ) → same c d ≤ 1
same_low c d = ⊎_elim (λ e. omega (arith, same_is c d e)) (λ n. omega (arith, same_not c d n)) (cases_eq c d)

-- a list in which c stands names it
pub times_here : (c : ℕ) (xs : List ℕ) → 0 < times c (c ∷ xs)
times_here c xs = omega (arith, same_self c)

pub times_low : (c : ℕ) (xs : List ℕ) → times c xs ≤ length xs
times_low c [] = omega arith
times_low c (x ∷ xs) = omega (arith, same_low c x, times_low c xs)

pub name_of_is : (c : ℕ) (f : Field) → f ≡ field.Cell c → name_of c f ≡ 1
name_of_is c f e = ap (name_of c) e ∙ same_self c

pub name_of_low : (c : ℕ) (f : Field) → name_of c f ≤ 1
name_of_low c field.Empty = omega arith
name_of_low c (field.Number n) = omega arith
name_of_low c (field.Cell d) = same_low c d

pub name_of_names : (c : ℕ) (f : Field) → 0 < name_of c f → f ≡ field.Cell c
name_of_names c field.Empty h = absurd (omega arith)
name_of_names c (field.Number n) h = absurd (omega arith)
name_of_names c (field.Cell d) h = ⊎_elim (λ e. ap field.Cell (sym e)) (λ n. absurd (omega (arith, same_not c d n, h))) (cases_eq c d)

pub names_in_low : (c : ℕ) (fs : List Field) → names_in c fs ≤ 4
names_in_low c fs = omega (arith, name_of_low c (nth fs 0), name_of_low c (nth fs 1), name_of_low c (nth fs 2), name_of_low c (nth fs 3))

pub names_in_at : (c : ℕ) (fs : List Field) (k : ℕ) → k < 4 → nth fs k ≡ field.Cell c → 0 < names_in c fs
names_in_at c fs zero l e = omega (arith, name_of_is c (nth fs 0) e)
names_in_at c fs (suc zero) l e = omega (arith, name_of_is c (nth fs 1) e)
names_in_at c fs (suc (suc zero)) l e = omega (arith, name_of_is c (nth fs 2) e)
names_in_at c fs (suc (suc (suc zero))) l e = omega (arith, name_of_is c (nth fs 3) e)
names_in_at c fs (suc (suc (suc (suc k)))) l e = absurd (omega arith)

pub names_in_find : (c : ℕ) (fs : List Field) → 0 < names_in c fs → (k : ℕ) × (k < 4) × (nth fs k ≡ field.Cell c)
names_in_find c fs h =
    ⊎_elim (λ p. (0, omega arith, name_of_names c (nth fs 0) p)) (λ n₀.
    ⊎_elim (λ p. (1, omega arith, name_of_names c (nth fs 1) p)) (λ n₁.
    ⊎_elim (λ p. (2, omega arith, name_of_names c (nth fs 2) p)) (λ n₂. (3, omega arith, name_of_names c (nth fs 3) (omega arith)))
    (cases_lt 0 (name_of c (nth fs 2))))
    (cases_lt 0 (name_of c (nth fs 1))))
    (cases_lt 0 (name_of c (nth fs 0)))

-- a field of a cell names c, so it is named
pub naming_at : (cs : List Cell) (c d k : ℕ) → d < length cs → k < 4 → field_at cs d k ≡ field.Cell c → 0 < naming c cs
naming_at cs c d k l lk e = omega (arith, total_at (names_from c) cs d (cell 0 0 []) l, names_in_at c (fields_at cs d) k lk e)

-- a cell that is named is named by a field of some cell
pub naming_find : (cs : List Cell) (c : ℕ) → 0 < naming c cs → (d : ℕ) × (d < length cs) × ((k : ℕ) × (k < 4) × (field_at cs d k ≡ field.Cell c))
naming_find cs c h = let r = total_find (names_from c) cs (cell 0 0 []) h in (r.0, r.1, names_in_find c (fields_at cs r.0) r.2)

pub naming_low : (c : ℕ) (cs : List Cell) → naming c cs ≤ 4 * length cs
naming_low c [] = omega arith
naming_low c (x ∷ xs) = omega (arith, names_in_low c x.fields, naming_low c xs)

-- one cell that names nothing leaves four fields fewer
pub naming_less : (c : ℕ) (cs : List Cell) (d : ℕ) → d < length cs → names_in c (fields_at cs d) ≡ 0 → naming c cs + 4 ≤ 4 * length cs
naming_less c [] d l e = absurd (omega arith)
naming_less c (x ∷ xs) zero l e = omega (arith, e, naming_low c xs)
naming_less c (x ∷ xs) (suc d) l e = omega (arith, names_in_low c x.fields, naming_less c xs d (omega arith) e)

-- no cell names c
pub naming_none : (c : ℕ) (cs : List Cell) → ((d : ℕ) → d < length cs → names_in c (fields_at cs d) ≡ 0) → naming c cs ≡ 0
naming_none c [] h = refl
naming_none c (x ∷ xs) h = omega (arith, h 0 (omega arith), naming_none c xs (λ d l. h (suc d) (omega arith)))

-- cell e is written: the number of fields that name c loses those that stood there and gains those that stand there now
pub naming_set : (cs : List Cell) (e : ℕ) (x : Cell) (c : ℕ) → e < length cs → naming c (set cs e x) + names_in c (fields_at cs e) ≡ naming c cs + names_in c x.fields
naming_set cs e x c l = total_set (names_from c) cs e x (cell 0 0 []) l

-- what holds of each cell after cell e is written
pub on_set : (cs : List Cell) (e : ℕ) (x : Cell) → e < length cs → (P : Cell → Type 0) (c : ℕ) → (c ≡ e → P x) → ((c ≡ e → ⊥) → P (cell_at cs c)) → P (cell_at (set cs e x) c)
on_set cs e x l P c here there =
    ⊎_elim
    (λ q. subst P (sym (ap (λ i. cell_at (set cs e x) i) q ∙ get_or-set_same cs e x (cell 0 0 []) l)) (here q))
    (λ n. subst P (sym (get_or-set_other cs e c x (cell 0 0 []) n)) (there n))
    (cases_eq c e)

pub fields_kept : (cs : List Cell) (e : ℕ) (x : Cell) → e < length cs → x.fields ≡ fields_at cs e → (c : ℕ) → fields_at (set cs e x) c ≡ fields_at cs c
fields_kept cs e x l h c = on_set cs e x l (λ y. y.fields ≡ fields_at cs c) c (λ q. h ∙ ap (fields_at cs) (sym q)) (λ n. refl)

pub links_kept : (cs : List Cell) (e : ℕ) (x : Cell) → e < length cs → x.link ≡ link_at cs e → (c : ℕ) → link_at (set cs e x) c ≡ link_at cs c
links_kept cs e x l h c = on_set cs e x l (λ y. y.link ≡ link_at cs c) c (λ q. h ∙ ap (link_at cs) (sym q)) (λ n. refl)

pub naming_kept : (cs : List Cell) (e : ℕ) (x : Cell) → e < length cs → x.fields ≡ fields_at cs e → (c : ℕ) → naming c (set cs e x) ≡ naming c cs
naming_kept cs e x l h c = omega (arith, naming_set cs e x c l, ap (names_in c) h)

pub cell_other : (cs : List Cell) (e : ℕ) (x : Cell) (c : ℕ) → (c ≡ e → ⊥) → cell_at (set cs e x) c ≡ cell_at cs c
cell_other cs e x c n = get_or-set_other cs e c x (cell 0 0 []) n

pub cell_same : (cs : List Cell) (e : ℕ) (x : Cell) → e < length cs → cell_at (set cs e x) e ≡ x
cell_same cs e x l = get_or-set_same cs e x (cell 0 0 []) l

-- writing a cell adds and takes away none
pub below_set : (cs : List Cell) (e : ℕ) (x : Cell) (c : ℕ) → c < length (set cs e x) → c < length cs
below_set cs e x c h = omega (arith, length-set cs e x, h)

pub below_in : (cs : List Cell) (e : ℕ) (x : Cell) (c : ℕ) → c < length cs → c < length (set cs e x)
below_in cs e x c h = omega (arith, length-set cs e x, h)
