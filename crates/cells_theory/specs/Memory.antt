-- The memory of cells, and how its parts are read.
use Rattle.std.specs.Prelude.{ℕ, ◌+◌, cond, List, [], ◌∷◌, ◌==◌, slice_index_or}
use Rattle.keeper.specs.declared.fault.Fault.{Fault}
use Rattle.keeper.specs.declared.fault.Layer.TheVariants as layer
use Rattle.keeper.specs.declared.fault.Refusal.TheVariants.{NoFreeCell, Damaged}
use Rattle.keeper.specs.Refusals.{fault_by}
use Rattle.cells_theory.specs.declared.cell.Cell.{Cell}
use Rattle.cells_theory.specs.declared.cell.Heads.{Heads}
use Rattle.cells_theory.specs.declared.cell.Field.{Field}
use Rattle.cells_theory.specs.declared.cell.Field.TheVariants as field

-- the heads of the two chains, and the cells
pub record Memory : Type 0 where
  pub heads : Heads
  pub cells : List Cell

abbrev pub memory : Heads → List Cell → Memory
memory h cs = record { heads = h; cells = cs }

-- the heads of the free chain and of the waiting chain
abbrev pub chains : ℕ → ℕ → Heads
chains f w = record { free = f; waiting = w }

-- a cell with its count, its link and its fields
abbrev pub cell : ℕ → ℕ → List Field → Cell
cell n l fs = record { count = n; link = l; fields = fs }

-- the head of an empty chain, and the link of the last cell of a chain
abbrev pub none : ℕ
none = 4294967295

abbrev pub four_empty : List Field
four_empty = field.Empty ∷ field.Empty ∷ field.Empty ∷ field.Empty ∷ []

-- cell c, and its parts
abbrev pub cell_at : List Cell → ℕ → Cell
cell_at cs c = slice_index_or cs c (cell 0 0 [])

abbrev pub count_at : List Cell → ℕ → ℕ
count_at cs c = (cell_at cs c).count

abbrev pub link_at : List Cell → ℕ → ℕ
link_at cs c = (cell_at cs c).link

abbrev pub fields_at : List Cell → ℕ → List Field
fields_at cs c = (cell_at cs c).fields

-- field k of four
abbrev pub nth : List Field → ℕ → Field
nth fs k = slice_index_or fs k field.Empty

-- field k of cell c
abbrev pub field_at : List Cell → ℕ → ℕ → Field
field_at cs c k = nth (fields_at cs c) k

-- 1 where the two are one cell
abbrev pub same : ℕ → ℕ → ℕ
same c d = cond (c == d) 1 0

-- 1 where the field names cell c
abbrev pub name_of : ℕ → Field → ℕ
name_of c field.Empty = 0
name_of c (field.Number n) = 0
name_of c (field.Cell d) = same c d

-- how many of four fields name cell c
abbrev pub names_in : ℕ → List Field → ℕ
names_in c fs = ((name_of c (nth fs 0) + name_of c (nth fs 1)) + name_of c (nth fs 2)) + name_of c (nth fs 3)

-- the refusals 14, no cell is free, and 16, the memory is damaged
abbrev pub no_free_cell : Fault
no_free_cell = fault_by layer.Cells NoFreeCell

abbrev pub damaged : Fault
damaged = fault_by layer.Cells Damaged
