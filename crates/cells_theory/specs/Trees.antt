-- The trees that cells stand for, and which cells can be reached from a cell.
use Rattle.std.specs.Prelude.{◌≡◌, ℕ, zero, suc, ◌<◌, List, slice_index_or}
use Rattle.cells_theory.specs.declared.cell.Cell.{Cell}
use Rattle.cells_theory.specs.declared.cell.Field.{Field}
use Rattle.cells_theory.specs.declared.cell.Field.TheVariants as field
use Rattle.cells_theory.specs.Memory.{field_at}

-- a tree is empty, a number, or a node: a leaf and four trees
pub data Tree (T : Type 0) : Type 0 where
  empty : Tree T
  number : ℕ → Tree T
  node : T → Tree T → Tree T → Tree T → Tree T → Tree T

-- tree k of a node's four; empty for any other tree
abbrev pub child : {T : Type 0} → ℕ → Tree T → Tree T
child k empty = empty
child k (number n) = empty
child zero (node t x₀ x₁ x₂ x₃) = x₀
child (suc zero) (node t x₀ x₁ x₂ x₃) = x₁
child (suc (suc zero)) (node t x₀ x₁ x₂ x₃) = x₂
child (suc (suc (suc k))) (node t x₀ x₁ x₂ x₃) = x₃

-- a field stands for a tree: an empty field for the empty tree, a number for that number, and a cell for a node with the cell's leaf
-- whose four trees the cell's fields stand for
abbrev pub Stands : {T : Type 0} → List Cell → List T → Field → Tree T → Type 0
Stands cs ls field.Empty empty = Unit {0}
Stands cs ls (field.Number m) empty = ⊥
Stands cs ls (field.Cell c) empty = ⊥
Stands cs ls field.Empty (number n) = ⊥
Stands cs ls (field.Number m) (number n) = m ≡ n
Stands cs ls (field.Cell c) (number n) = ⊥
Stands cs ls field.Empty (node t x₀ x₁ x₂ x₃) = ⊥
Stands cs ls (field.Number m) (node t x₀ x₁ x₂ x₃) = ⊥
Stands {T} cs ls (field.Cell c) (node t x₀ x₁ x₂ x₃) = ((d : T) → slice_index_or ls c d ≡ t)
    × Stands cs ls (field_at cs c 0) x₀ × Stands cs ls (field_at cs c 1) x₁ × Stands cs ls (field_at cs c 2) x₂ × Stands cs ls (field_at cs c 3) x₃

-- a path of fields leads from cell c to another: it ends at c itself, or goes on from its end by one of four fields
pub data Reaches (cs : List Cell) (c : ℕ) : ℕ → Type 0 where
  here : Reaches cs c c
  down : {d e : ℕ} (k : ℕ) → k < 4 → Reaches cs c d → field_at cs d k ≡ field.Cell e → Reaches cs c e
