-- Reading a cell: its count, what following one of its fields gives, and what a look shows of it.
use Rattle.std.specs.Prelude.{◌≡◌, ℕ, ◌<◌, cond, List, [], ◌∷◌, length, Ok, Err, Result, nat_lt, slice_index_or}
use Rattle.keeper.specs.declared.fault.Fault.{Fault}
use Rattle.cells_theory.specs.declared.cell.Cell.{Cell}
use Rattle.cells_theory.specs.declared.cell.Field.{Field}
use Rattle.cells_theory.specs.declared.cell.Field.TheVariants as field
use Rattle.cells_theory.specs.declared.shown.Part.{Part}
use Rattle.cells_theory.specs.declared.shown.Part.TheVariants as part
use Rattle.cells_theory.specs.declared.shown.Shown.{Shown}
use Rattle.cells_theory.specs.Memory.{count_at, fields_at, field_at, nth, damaged}

-- the count of cell c, 0 for a number that is no cell's
abbrev pub count_answer : List Cell → ℕ → ℕ
count_answer cs c = cond (nat_lt c (length cs)) (count_at cs c) 0

-- a field that is followed: refused 16 where it names no cell of the memory
abbrev pub followed : List Cell → Field → Result Field Fault
followed cs field.Empty = Ok field.Empty
followed cs (field.Number n) = Ok (field.Number n)
followed cs (field.Cell d) = cond (nat_lt d (length cs)) (Ok (field.Cell d)) (Err damaged)

-- what following field k of cell c gives: refused 16 where c or the cell that the field names is none of the memory's;
-- a cell has no field above 3, which is as an empty one
abbrev pub field_answer : List Cell → ℕ → ℕ → Result Field Fault
field_answer cs c k = cond (nat_lt c (length cs)) (cond (nat_lt k 4) (followed cs (field_at cs c k)) (Ok field.Empty)) (Err damaged)

-- what is shown of a field
abbrev pub shown_as : Field → Part
shown_as field.Empty = part.Empty
shown_as (field.Number n) = part.Number n
shown_as (field.Cell c) = part.Cell

abbrev pub parts_of : List Field → List Part
parts_of fs = shown_as (nth fs 0) ∷ shown_as (nth fs 1) ∷ shown_as (nth fs 2) ∷ shown_as (nth fs 3) ∷ []

-- a look at cell c shows its leaf and its fields; refused 16 where it is no cell of the memory, or has no leaf
abbrev pub Looks : {T : Type 0} → List Cell → List T → ℕ → Result (Shown T) Fault → Type 0
Looks {T} cs ls c (Ok s) = (c < length cs) × (c < length ls) × ((d : T) → s.leaf ≡ slice_index_or ls c d) × (s.parts ≡ parts_of (fields_at cs c))
Looks cs ls c (Err f) = (c < length cs → c < length ls → ⊥) × (f ≡ damaged)
