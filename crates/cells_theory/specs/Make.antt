-- Making a fresh memory: cell 0 is used, all others are free in rising order.
use Rattle.std.specs.Prelude.{◌≡◌, ℕ, ◌+◌, ◌<◌, cond, ◌&&◌, List, length, ◌==◌, nat_lt, slice_set}
use Rattle.cells_theory.specs.declared.cell.Cell.{Cell}
use Rattle.cells_theory.specs.declared.cell.Heads.{Heads}
use Rattle.cells_theory.specs.Memory.{chains, cell, cell_at, none, four_empty}

-- the cell after cell i of n: none after the last, and none where the next number is `none` itself
abbrev pub next : ℕ → ℕ → ℕ
next n i = cond (nat_lt (i + 1) n && nat_lt (i + 1) none) (i + 1) none

-- cell i of n in a fresh memory: cell 0 has count 1 and no link, the others have count 0 and are linked to the next
abbrev pub fresh_cell : ℕ → ℕ → Cell
fresh_cell n i = cond (i == 0) (cell 1 none four_empty) (cell 0 (next n i) four_empty)

abbrev pub Fresh : List Cell → Type 0
Fresh cs = (i : ℕ) → i < length cs → cell_at cs i ≡ fresh_cell (length cs) i

-- the free chain starts at cell 1, where there is one, and no cell waits
abbrev pub fresh_heads : ℕ → Heads
fresh_heads n = chains (next n 0) none

-- the leaf of cell 0 is written, where there is a cell and a leaf for it; other leaves are untouched
abbrev pub fresh_leaves : {T : Type 0} → ℕ → T → List T → List T
fresh_leaves n leaf ls = cond (nat_lt 0 n && nat_lt 0 (length ls)) (slice_set ls 0 leaf) ls
