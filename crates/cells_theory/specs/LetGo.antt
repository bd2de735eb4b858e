-- Letting go of a cell.
use Rattle.std.specs.Prelude.{ℕ, ◌-◌, cond, List, length, ◌==◌, nat_lt, slice_set}
use Rattle.cells_theory.specs.declared.cell.Cell.{Cell}
use Rattle.cells_theory.specs.declared.cell.Field.{Field}
use Rattle.cells_theory.specs.declared.cell.Field.TheVariants as field
use Rattle.cells_theory.specs.Memory.{Memory, memory, chains, cell, cell_at, nth}

-- the count falls by one; at 0 the cell becomes the first that waits
abbrev pub lowered : ℕ → Cell → Memory → Memory
lowered c x m =
    cond (x.count == 1)
    (memory (chains m.heads.free c) (slice_set m.cells c (cell 0 m.heads.waiting x.fields)))
    (memory m.heads (slice_set m.cells c (cell (x.count - 1) x.link x.fields)))

-- the memory after cell c was let go: nothing changes for a number that is no cell's, or a count of 0
abbrev pub let_go : ℕ → Memory → Memory
let_go c m = cond (nat_lt c (length m.cells)) (cond ((cell_at m.cells c).count == 0) m (lowered c (cell_at m.cells c) m)) m

-- the cell that a field names, if any, is let go
abbrev pub let_go_field : Field → Memory → Memory
let_go_field field.Empty m = m
let_go_field (field.Number n) m = m
let_go_field (field.Cell c) m = let_go c m

-- the cells that four fields name are let go, from field 0 to field 3
abbrev pub let_go_four : List Field → Memory → Memory
let_go_four fs m = let_go_field (nth fs 3) (let_go_field (nth fs 2) (let_go_field (nth fs 1) (let_go_field (nth fs 0) m)))
