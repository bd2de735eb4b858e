-- Building: the first free cell is filled with four fields and a leaf.
use Rattle.std.specs.Prelude.{ℕ, ◌+◌, ◌-◌, Bool, true, cond, ◌&&◌, List, length, Ok, Err, Result, ◌==◌, nat_le, nat_lt, slice_set}
use Rattle.keeper.specs.declared.fault.Fault.{Fault}
use Rattle.cells_theory.specs.declared.cell.Cell.{Cell}
use Rattle.cells_theory.specs.declared.cell.Field.{Field}
use Rattle.cells_theory.specs.declared.cell.Field.TheVariants as field
use Rattle.cells_theory.specs.Memory.{Memory, memory, chains, cell, none, cell_at, count_at, link_at, nth, names_in, no_free_cell, damaged}

-- the cell that a field names is there, and its last raise, where the fields name it several times, starts from 999,990 at most
abbrev pub raisable : List Cell → List Field → Field → Bool
raisable cs fs field.Empty = true
raisable cs fs (field.Number n) = true
raisable cs fs (field.Cell c) = nat_lt c (length cs) && nat_le (count_at cs c) (999991 - names_in c fs)

abbrev pub all_raisable : List Cell → List Field → Bool
all_raisable cs fs = raisable cs fs (nth fs 0) && (raisable cs fs (nth fs 1) && (raisable cs fs (nth fs 2) && raisable cs fs (nth fs 3)))

-- number c is that of a cell and of a leaf, and every cell that the fields name can be raised
abbrev pub fillable : List Cell → ℕ → ℕ → List Field → Bool
fillable cs leaves c fs = nat_lt c (length cs) && (nat_lt c leaves && all_raisable cs fs)

-- the cell that a build fills: the first free one. Refused 14 where none is free, then 16 where it cannot be filled
abbrev pub build_answer : Memory → ℕ → List Field → Result ℕ Fault
build_answer m leaves fs =
    cond (m.heads.free == none) (Err no_free_cell) (cond (fillable m.cells leaves m.heads.free fs) (Ok m.heads.free) (Err damaged))

-- the count of cell c rises by one: nothing changes for a number that is no cell's, or a count above 999,990
abbrev pub raise : ℕ → List Cell → List Cell
raise c cs = cond (nat_lt c (length cs) && nat_le (count_at cs c) 999990) (slice_set cs c (cell (count_at cs c + 1) (link_at cs c) (cell_at cs c).fields)) cs

abbrev pub raise_field : Field → List Cell → List Cell
raise_field field.Empty cs = cs
raise_field (field.Number n) cs = cs
raise_field (field.Cell c) cs = raise c cs

-- each cell that the four fields name rises by one for each field that names it
abbrev pub raise_four : List Field → List Cell → List Cell
raise_four fs cs = raise_field (nth fs 3) (raise_field (nth fs 2) (raise_field (nth fs 1) (raise_field (nth fs 0) cs)))

-- cell c has count 1 and the fields, with its link as it was, which is the first free cell now
abbrev pub fill : ℕ → List Field → Memory → Memory
fill c fs m = memory (chains (link_at m.cells c) m.heads.waiting) (slice_set m.cells c (cell 1 (link_at m.cells c) fs))

-- the memory after a build, by its answer: a refusal alters nothing
abbrev pub build_memory : Result ℕ Fault → List Field → Memory → Memory
build_memory (Ok c) fs m = fill c fs (memory m.heads (raise_four fs m.cells))
build_memory (Err f) fs m = m

-- the leaves after a build
abbrev pub build_leaves : {T : Type 0} → Result ℕ Fault → T → List T → List T
build_leaves (Ok c) leaf ls = slice_set ls c leaf
build_leaves (Err f) leaf ls = ls
