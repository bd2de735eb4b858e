-- A fresh memory is sound.
use Rattle.std.proofs.Common.{◌≡◌, ℕ, zero, suc, ◌+◌, ◌-◌, ◌<◌, ◌≤◌, false, ◌&&◌, eqb, ltb, List, [], ◌∷◌, length, set, sym, refl, ap, ◌∙◌, subst, ⊎_elim, arith}
use Rattle.std.proofs.lemmas.List.{get_or-set_same}
use Rattle.std.proofs.lemmas.Bool.{cases_eq, cases_lt, eq-eqb, ne_eqb, lt-ltb, le-ltb, and_from, and_left, and_right, cond-true, cond-false}
use Rattle.cells_theory.specs.declared.cell.Cell.{Cell}
use Rattle.cells_theory.specs.declared.cell.Heads.{Heads}
use Rattle.cells_theory.specs.declared.cell.Field.{Field}
use Rattle.cells_theory.specs.declared.cell.Field.TheVariants as field
use Rattle.cells_theory.specs.Memory.{memory, cell, none, four_empty, cell_at, count_at, fields_at, field_at, nth, names_in}
use Rattle.cells_theory.specs.Make.{next, Fresh, fresh_heads, fresh_leaves}
use Rattle.cells_theory.specs.Trees.{empty, node, Stands}
use Rattle.cells_theory.specs.Sound.{times, naming, Chain, Sound}
use Rattle.cells_theory.specs.Promises.{MakePromises}
use Rattle.cells_theory.proofs.Counting.{same_is, same_not, naming_none}
use Rattle.cells_theory.proofs.Frames.{field_below}
use Rattle.cells_theory.proofs.Sweeping.{empty_names}

-- k numbers in rising order, from a on
abbrev rising : ℕ → ℕ → List ℕ
rising a zero = []
rising a (suc k) = a ∷ rising (suc a) k

rising_low : (d a k : ℕ) → d < a → times d (rising a k) ≡ 0
rising_low d a zero l = refl
rising_low d a (suc k) l = omega (arith, same_not d a (λ e. omega (arith, e, l)), rising_low d (suc a) k (omega arith))

rising_high : (d a k : ℕ) → a + k ≤ d → times d (rising a k) ≡ 0
rising_high d a zero l = refl
rising_high d a (suc k) l = omega (arith, same_not d a (λ e. omega (arith, e, l)), rising_high d (suc a) k (omega arith))

rising_in : (d a k : ℕ) → a ≤ d → d < a + k → times d (rising a k) ≡ 1
rising_in d a zero l h = absurd (omega arith)
rising_in d a (suc k) l h =
    ⊎_elim
    (λ e. omega (arith, same_is d a e, rising_low d (suc a) k (omega (arith, e))))
    (λ n. omega (arith, same_not d a n, rising_in d (suc a) k (omega (arith, l, n)) (omega (arith, h))))
    (cases_eq d a)

module _ (cs : List Cell) (fresh : Fresh cs) (some : 0 < length cs) (few : length cs ≤ none) where
  first : cell_at cs 0 ≡ cell 1 none four_empty
  first = fresh 0 some ∙ cond-true (eqb 0 0) (cell 1 none four_empty) (cell 0 (next (length cs) 0) four_empty) (eq-eqb 0 0 refl)

  later : (d : ℕ) → d < length cs → (d ≡ 0 → ⊥) → cell_at cs d ≡ cell 0 (next (length cs) d) four_empty
  later d l n = fresh d l ∙ cond-false (eqb d 0) (cell 1 none four_empty) (cell 0 (next (length cs) d) four_empty) (ne_eqb d 0 n)

  all_empty : (d : ℕ) → d < length cs → fields_at cs d ≡ four_empty
  all_empty d l =
      ⊎_elim
      (λ e. ap (fields_at cs) e ∙ ap (λ (x : Cell). x.fields) first)
      (λ n. ap (λ (x : Cell). x.fields) (later d l n))
      (cases_eq d 0)

  no_cell : (d k e : ℕ) → k < 4 → field_at cs d k ≡ field.Cell e → ⊥
  no_cell d k e l h = empty_names k e l (sym (ap (λ fs. nth fs k) (all_empty d (field_below cs d k e h))) ∙ h)

  chained : (k i : ℕ) → (i + 1) + k ≡ length cs → Chain cs (next (length cs) i) (rising (suc i) k)
  chained zero i e = cond-false (ltb (i + 1) (length cs) && ltb (i + 1) none) (i + 1) none (and_left (ltb (i + 1) (length cs)) (ltb (i + 1) none) (le-ltb (i + 1) (length cs) (omega arith)))
  chained (suc k) i e = (
    cond-true (ltb (i + 1) (length cs) && ltb (i + 1) none) (i + 1) none
        (and_from (ltb (i + 1) (length cs)) (ltb (i + 1) none) (lt-ltb (i + 1) (length cs) (omega arith)) (lt-ltb (i + 1) none (omega arith))) ∙ omega arith,
    omega arith,
    omega arith,
    subst (λ h. Chain cs h (rising (suc (suc i)) k)) (sym (ap (λ (x : Cell). x.link) (later (suc i) (omega arith) (λ z. omega (arith, z))))) (chained k (suc i) (omega arith)),
  )

  fresh_sound : Sound (memory (fresh_heads (length cs)) cs) (0 ∷ [])
  fresh_sound =
      let free = rising 1 (length cs - 1) in
      let in_range : (d : ℕ) → 0 < times d free → (d < length cs) × (d ≡ 0 → ⊥) = λ d p. (
        ⊎_elim (λ l. l) (λ h. absurd (omega (arith, p, rising_high d 1 (length cs - 1) (omega (arith, h))))) (cases_lt d (length cs)),
        λ e. omega (arith, p, rising_low d 1 (length cs - 1) (omega (arith, e))),
      ) in
      record {
        few = few;
        free = free;
        waiting = [];
        free_chain = chained (length cs - 1) 0 (omega arith);
        waiting_chain = refl;
        distinct = λ d. ⊎_elim
            (λ l. omega (arith, rising_low d 1 (length cs - 1) l))
            (λ l. ⊎_elim (λ h. omega (arith, rising_in d 1 (length cs - 1) l (omega (arith, h)))) (λ h. omega (arith, rising_high d 1 (length cs - 1) (omega (arith, h)))) (cases_lt d (length cs)))
            (cases_lt d 1);
        blank = λ d p. let r = in_range d p in (ap (λ (x : Cell). x.count) (later d r.0 r.1), all_empty d r.0);
        within = λ d k e l h. absurd (no_cell d k e l h);
        named = λ d p. ⊎_elim (λ e. omega (arith, e)) (λ n. absurd (omega (arith, p, same_not d 0 n))) (cases_eq d 0);
        counted = λ d l.
            let z : naming d cs ≡ 0 = naming_none d cs (λ e le. ap (names_in d) (all_empty e le)) in
            ⊎_elim
            (λ e. omega (arith, z, same_is d 0 e, ap (count_at cs) e, ap (λ (x : Cell). x.count) first))
            (λ n. omega (arith, z, same_not d 0 n, ap (λ (x : Cell). x.count) (later d l n)))
            (cases_eq d 0);
        idle = λ d p. absurd (omega (arith, p));
        waits = λ d l z. ⊎_elim
            (λ e. absurd (omega (arith, z, ap (count_at cs) e, ap (λ (x : Cell). x.count) first)))
            (λ n. omega (arith, rising_in d 1 (length cs - 1) (omega (arith, n)) (omega (arith, l))))
            (cases_eq d 0);
        rank = λ _. 0;
        falls = λ d k e l h. absurd (no_cell d k e l h);
      }

  fresh_stands : {T : Type 0} (leaf : T) (ls : List T) → 0 < length ls → Stands cs (set ls 0 leaf) (field.Cell 0) (node leaf empty empty empty empty)
  fresh_stands {T} leaf ls l =
      let ms = set ls 0 leaf in
      let part : (k : ℕ) → nth four_empty k ≡ field.Empty → Stands {T = T} cs ms (field_at cs 0 k) empty =
      λ k e. subst (λ (f : Field). Stands {T = T} cs ms f empty) (sym (ap (λ fs. nth fs k) (all_empty 0 some) ∙ e)) tt in
      (λ d. get_or-set_same ls 0 leaf d l, part 0 refl, part 1 refl, part 2 refl, part 3 refl)

pub make_promises : {T : Type 0} (leaf : T) (h : Heads) (cs : List Cell) (ls ms : List T) → h ≡ fresh_heads (length cs) → Fresh cs → ms ≡ fresh_leaves (length cs) leaf ls → MakePromises leaf (memory h cs) ms
make_promises {T} leaf h cs ls ms eh fresh em some few l =
    let long : 0 < length ls = ⊎_elim (λ p. p) (λ p. absurd (omega (arith, l, p, ap length (em ∙ cond-false (ltb 0 (length cs) && ltb 0 (length ls)) (set ls 0 leaf) ls (none_there p))))) (cases_lt 0 (length ls)) in
    let e : ms ≡ set ls 0 leaf = em ∙ cond-true (ltb 0 (length cs) && ltb 0 (length ls)) (set ls 0 leaf) ls (and_from (ltb 0 (length cs)) (ltb 0 (length ls)) (lt-ltb 0 (length cs) some) (lt-ltb 0 (length ls) long)) in
    record {
      sound = subst (λ (i : Heads). Sound (memory i cs) (0 ∷ [])) (sym eh) (fresh_sound cs fresh some few);
      stands = subst (λ (vs : List T). Stands cs vs (field.Cell 0) (node leaf empty empty empty empty)) (sym e) (fresh_stands cs fresh some few leaf ls long);
    }
  where
    none_there : length ls ≤ 0 → (ltb 0 (length cs) && ltb 0 (length ls)) ≡ false
    none_there p = and_right (ltb 0 (length cs)) (ltb 0 (length ls)) (le-ltb 0 (length ls) p)
