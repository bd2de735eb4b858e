-- What following a field and looking at a cell say of paths and trees.
use Rattle.std.proofs.Common.{◌≡◌, ℕ, zero, suc, ◌<◌, ◌≤◌, Bool, true, false, cond, ltb, List, [], ◌∷◌, length, get_or, Ok, Err, Result, sym, refl, ap, ◌∙◌, arith}
use Rattle.std.proofs.lemmas.List.{get_or_default}
use Rattle.std.proofs.lemmas.Bool.{lt-ltb, ltb-true, cond-true}
use Rattle.keeper.specs.declared.fault.Fault.{Fault}
use Rattle.cells_theory.specs.declared.cell.Cell.{Cell}
use Rattle.cells_theory.specs.declared.cell.Field.{Field}
use Rattle.cells_theory.specs.declared.cell.Field.TheVariants as field
use Rattle.cells_theory.specs.declared.shown.Part.{Part}
use Rattle.cells_theory.specs.declared.shown.Part.TheVariants as part
use Rattle.cells_theory.specs.declared.shown.Shown.{Shown}
use Rattle.cells_theory.specs.Memory.{Memory, memory, fields_at, field_at, damaged}
use Rattle.cells_theory.specs.Look.{followed, field_answer, shown_as, parts_of, Looks}
use Rattle.cells_theory.specs.Trees.{Tree, empty, number, node, child, Stands, Reaches, here, down}
use Rattle.cells_theory.specs.Sound.{Sound}
use Rattle.cells_theory.specs.Promises.{FieldPromises, shown_tree, LookPromises}

-- a field that names nothing but cells is followed
follows : (cs : List Cell) (f : Field) → ((d : ℕ) → f ≡ field.Cell d → d < length cs) → followed cs f ≡ Ok f
follows cs field.Empty h = refl
follows cs (field.Number n) h = refl
follows cs (field.Cell d) h = cond-true (ltb d (length cs)) (Ok (field.Cell d)) (Err damaged) (lt-ltb d (length cs) (h d refl))

-- only a field that names a cell leads to it
leads : (cs : List Cell) (f : Field) (d : ℕ) → followed cs f ≡ Ok (field.Cell d) → f ≡ field.Cell d
leads cs field.Empty d e = let z : ◌≡◌ {A = ℕ} 0 1 = cc in absurd (omega arith)
leads cs (field.Number n) d e = let z : ◌≡◌ {A = ℕ} 0 1 = cc in absurd (omega arith)
leads cs (field.Cell c) d e = go (ltb c (length cs)) e
  where
    go : (b : Bool) → cond b (Ok (field.Cell c)) (Err damaged) ≡ Ok (field.Cell d) → field.Cell c ≡ field.Cell d
    go true e = cc
    go false e = let z : ◌≡◌ {A = ℕ} 0 1 = cc in absurd (omega arith)

pub field_promises : (cs : List Cell) (c k : ℕ) (r : Result Field Fault) → r ≡ field_answer cs c k → FieldPromises cs c k r
field_promises cs c k r q = record {
  answered = λ h names s l lk. q ∙ cond-true (ltb c (length cs)) (cond (ltb k 4) (followed cs (field_at cs c k)) (Ok field.Empty)) (Err damaged) (lt-ltb c (length cs) l)
      ∙ cond-true (ltb k 4) (followed cs (field_at cs c k)) (Ok field.Empty) (lt-ltb k 4 lk)
      ∙ follows cs (field_at cs c k) (λ d e. s.within c k d lk e);
  reached = λ d e. go d (ltb c (length cs)) (ltb k 4) refl (sym q ∙ e);
}
  where
    go : (d : ℕ) (a b : Bool) → ltb k 4 ≡ b → cond a (cond b (followed cs (field_at cs c k)) (Ok field.Empty)) (Err damaged) ≡ Ok (field.Cell d) → Reaches cs c d
    go d true true p e = down k (ltb-true k 4 p) here (leads cs (field_at cs c k) d e)
    go d true false p e = let z : ◌≡◌ {A = ℕ} 0 1 = cc in absurd (omega arith)
    go d false b p e = let z : ◌≡◌ {A = ℕ} 0 1 = cc in absurd (omega arith)

-- a field shows what its tree shows
shows : {T : Type 0} (cs : List Cell) (ls : List T) (f : Field) (x : Tree T) → Stands cs ls f x → shown_as f ≡ shown_tree x
shows cs ls field.Empty empty s = refl
shows cs ls (field.Number m) empty s = absurd s
shows cs ls (field.Cell c) empty s = absurd s
shows cs ls field.Empty (number n) s = absurd s
shows cs ls (field.Number m) (number n) s = ap part.Number s
shows cs ls (field.Cell c) (number n) s = absurd s
shows cs ls field.Empty (node t x₀ x₁ x₂ x₃) s = absurd s
shows cs ls (field.Number m) (node t x₀ x₁ x₂ x₃) s = absurd s
shows cs ls (field.Cell c) (node t x₀ x₁ x₂ x₃) s = refl

abbrev shown : {T : Type 0} → T → List Part → Result (Shown T) Fault
shown t ps = Ok (record { leaf = t; parts = ps })

shows_tree : {T : Type 0} (cs : List Cell) (ls : List T) (c : ℕ) (r : Result (Shown T) Fault) → Looks cs ls c r → (t : T) (x₀ x₁ x₂ x₃ : Tree T) → c < length cs → c < length ls → Stands cs ls (field.Cell c) (node t x₀ x₁ x₂ x₃)
    → r ≡ shown t (shown_tree x₀ ∷ shown_tree x₁ ∷ shown_tree x₂ ∷ shown_tree x₃ ∷ [])
shows_tree {T} cs ls c (Ok s) h t x₀ x₁ x₂ x₃ lc ll st =
    let e : s.leaf ≡ t = h.2 t ∙ st.0 t in
    let p₀ = shows cs ls (field_at cs c 0) x₀ st.1 in
    let p₁ = shows cs ls (field_at cs c 1) x₁ st.2 in
    let p₂ = shows cs ls (field_at cs c 2) x₂ st.3 in
    let p₃ = shows cs ls (field_at cs c 3) x₃ st.4 in
    let ps : parts_of (fields_at cs c) ≡ shown_tree x₀ ∷ shown_tree x₁ ∷ shown_tree x₂ ∷ shown_tree x₃ ∷ [] = cc in
    ap (λ (l : T). shown l s.parts) e ∙ ap (λ (qs : List Part). shown t qs) (h.3 ∙ ps)
shows_tree cs ls c (Err f) h t x₀ x₁ x₂ x₃ lc ll st = absurd (h.0 lc ll)

-- a field stands for a tree where the cell that it names does
field_tree : {T : Type 0} (cs : List Cell) (ls : List T) (f : Field) → ((c : ℕ) → f ≡ field.Cell c → (x : Tree T) × Stands cs ls (field.Cell c) x) → (x : Tree T) × Stands cs ls f x
field_tree cs ls field.Empty h = (empty, tt)
field_tree cs ls (field.Number n) h = (number n, refl)
field_tree cs ls (field.Cell c) h = h c refl

-- every cell of a sound memory stands for a tree: ranks fall along fields
tree : {T : Type 0} (m : Memory) (names : List ℕ) (ls : List T) → length m.cells ≤ length ls → T → (fuel c : ℕ) → c < length m.cells → (s : Sound m names) → s.rank c < fuel → (x : Tree T) × Stands m.cells ls (field.Cell c) x
tree m names ls long t zero c l s h = absurd (omega arith)
tree {T} m names ls long t (suc fuel) c l s h =
    let cs = m.cells in
    let part : (k : ℕ) → k < 4 → (x : Tree T) × Stands cs ls (field_at cs c k) x = λ k lk. field_tree cs ls (field_at cs c k) (λ d e. tree m names ls long t fuel d (s.within c k d lk e) s (omega (arith, h, s.falls c k d lk e))) in
    let p₀ = part 0 (omega arith) in
    let p₁ = part 1 (omega arith) in
    let p₂ = part 2 (omega arith) in
    let p₃ = part 3 (omega arith) in
    (node (get_or ls c t) p₀.0 p₁.0 p₂.0 p₃.0, (λ d. get_or_default ls c d t (omega (arith, l, long)), p₀.1, p₁.1, p₂.1, p₃.1))

pub look_promises : {T : Type 0} (cs : List Cell) (ls : List T) (c : ℕ) (r : Result (Shown T) Fault) → Looks cs ls c r → LookPromises cs ls c r
look_promises cs ls c r h = record {
  shows = shows_tree cs ls c r h;
  stands = λ i names s long l t. tree (memory i cs) names ls long t (suc (s.rank c)) c l s (omega arith);
}

-- a field of a cell stands for the tree in that field of the cell's tree
pub child_stands : {T : Type 0} (cs : List Cell) (ls : List T) (c k : ℕ) (x : Tree T) → k < 4 → Stands cs ls (field.Cell c) x → Stands cs ls (field_at cs c k) (child k x)
child_stands cs ls c k empty l s = absurd s
child_stands cs ls c k (number n) l s = absurd s
child_stands cs ls c zero (node t x₀ x₁ x₂ x₃) l s = s.1
child_stands cs ls c (suc zero) (node t x₀ x₁ x₂ x₃) l s = s.2
child_stands cs ls c (suc (suc zero)) (node t x₀ x₁ x₂ x₃) l s = s.3
child_stands cs ls c (suc (suc (suc zero))) (node t x₀ x₁ x₂ x₃) l s = s.4
child_stands cs ls c (suc (suc (suc (suc k)))) (node t x₀ x₁ x₂ x₃) l s = absurd (omega arith)
