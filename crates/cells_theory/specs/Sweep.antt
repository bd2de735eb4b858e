-- Sweeping: the first waiting cell lets go of what its fields name, and becomes the first free cell.
use Rattle.std.specs.Prelude.{ℕ, cond, ◌&&◌, length, Some, None, Ok, Err, Option, Result, ◌==◌, nat_lt, slice_set}
use Rattle.keeper.specs.declared.fault.Fault.{Fault}
use Rattle.cells_theory.specs.Memory.{Memory, memory, chains, cell, none, count_at, link_at, fields_at, four_empty, damaged}
use Rattle.cells_theory.specs.LetGo.{let_go_four}

-- the cell that a sweep takes: the first waiting one, and none exactly where no cell waits; refused 16 where its number is not
-- below those of the cells and of the leaves lent
abbrev pub sweep_answer : Memory → ℕ → Result (Option ℕ) Fault
sweep_answer m leaves =
    cond (m.heads.waiting == none) (Ok None)
    (cond (nat_lt m.heads.waiting (length m.cells) && nat_lt m.heads.waiting leaves) (Ok (Some m.heads.waiting)) (Err damaged))

-- cell c, the first that waits, is taken off the waiting chain
abbrev pub unlink : ℕ → Memory → Memory
unlink c m = memory (chains m.heads.free (link_at m.cells c)) m.cells

-- cell c has empty fields and is the first free one
abbrev pub freed : ℕ → Memory → Memory
freed c m = memory (chains c m.heads.waiting) (slice_set m.cells c (cell (count_at m.cells c) m.heads.free four_empty))

-- the memory after a sweep, by its answer: a refusal alters nothing
abbrev pub sweep_memory : Result (Option ℕ) Fault → Memory → Memory
sweep_memory (Ok None) m = m
sweep_memory (Ok (Some c)) m = freed c (let_go_four (fields_at m.cells c) (unlink c m))
sweep_memory (Err f) m = m
