-- The calls that change cells: build and sweep.
use Rattle.std.specs.Prelude.{◌≡◌, ℕ, Bool, true, ◌&&◌, List, [], ◌∷◌, length, is_some, Some, None, Ok, Option, Result, nat_lt, slice_index_or}
use Rattle.keeper.specs.declared.fault.Refusal.TheVariants.{WrongMemory, PlaceEmpty}
use Rattle.keeper.specs.declared.fault.Fault.{Fault}
use Rattle.cells_theory.specs.declared.cell.Field.{Field}
use Rattle.cells_theory.specs.declared.cell.Field.TheVariants as field
use Rattle.cells_theory.specs.Build.{build_answer, build_memory, build_leaves}
use Rattle.cells_theory.specs.Sweep.{sweep_answer, sweep_memory}
use Rattle.exchange_theory.specs.declared.calls.Source.{Source}
use Rattle.exchange_theory.specs.declared.calls.Source.TheVariants as source
use Rattle.exchange_theory.specs.declared.column.Column.TheVariants as column
use Rattle.exchange_theory.specs.declared.row.Row.{Row}
use Rattle.exchange_theory.specs.World.{World, row_at, building_at, memory_of, building, storing, leaving, let_go_place}
use Rattle.exchange_theory.specs.Order.{fault_of, refuse, sized, admits, Turns}

-- source i of four
abbrev pub src : List Source → ℕ → Source
src ss i = slice_index_or ss i source.Empty

-- a place that a source names is there
abbrev pub ranged : Source → Bool
ranged (source.Reading a) = nat_lt a 8
ranged (source.Building b) = nat_lt b 8
ranged s = true

abbrev pub all_ranged : List Source → Bool
all_ranged ss = ranged (src ss 0) && (ranged (src ss 1) && (ranged (src ss 2) && ranged (src ss 3)))

-- a place that a source names is not empty in the program's row
abbrev pub given : Row → Source → Bool
given r (source.Reading a) = is_some (slice_index_or r.reading a None)
given r (source.Building b) = is_some (slice_index_or r.building b None)
given r s = true

abbrev pub all_given : Row → List Source → Bool
all_given r ss = given r (src ss 0) && (given r (src ss 1) && (given r (src ss 2) && given r (src ss 3)))

-- the field that names what a place names
abbrev pub placed : Option ℕ → Field
placed None = field.Empty
placed (Some c) = field.Cell c

-- the field that a source gives, by the program's row
abbrev pub field_from : Row → Source → Field
field_from r source.Empty = field.Empty
field_from r (source.Number n) = field.Number n
field_from r (source.Reading a) = placed (slice_index_or r.reading a None)
field_from r (source.Building b) = placed (slice_index_or r.building b None)

abbrev pub fields_from : Row → List Source → List Field
fields_from r ss = field_from r (src ss 0) ∷ field_from r (src ss 1) ∷ field_from r (src ss 2) ∷ field_from r (src ss 3) ∷ []

-- the cell that a build fills, or its refusal by the cells (14, 16)
abbrev pub new_cell : {T : Type 0} → World T → ℕ → List Source → Result ℕ Fault
new_cell w p ss = build_answer (memory_of w) (length w.leaves) (fields_from (row_at w p) ss)

-- build into building place b: 3 for b and the places of the sources, 12 where one of these is empty, and as the cells refuse
abbrev pub build_refusal : {T : Type 0} → World T → ℕ → ℕ → List Source → Option Fault
build_refusal w p b ss = admits w p (nat_lt b 8 && all_ranged ss) column.Build (refuse (all_given (row_at w p) ss) PlaceEmpty (fault_of (new_cell w p ss)))

-- a cell is built from the sources as they were; then what b named is let go, and b names the new cell
pub record BuildsCell {T : Type 0} (p b : ℕ) (ss : List Source) (leaf : T) (w v : World T) : Type 0 where
  pub cell : ℕ
  pub new : new_cell w p ss ≡ Ok cell
  pub after : v ≡ building p b (Some cell) (leaving (build_leaves (Ok cell) leaf w.leaves)
      (storing (let_go_place (building_at w p b) (build_memory (Ok cell) (fields_from (row_at w p) ss) (memory_of w))) w))

abbrev pub Builds : {T : Type 0} → ℕ → ℕ → List Source → T → Result (Unit {0}) Fault → World T → World T → Type 0
Builds p b ss leaf r w v = Turns (build_refusal w p b ss) w v (λ _. BuildsCell p b ss leaf w v) r

-- the cell that a sweep takes, none where no cell waits, or its refusal by the cells (16)
abbrev pub first_waiting : {T : Type 0} → World T → Result (Option ℕ) Fault
first_waiting w = sweep_answer (memory_of w) (length w.leaves)

-- sweep: 2, and as the cells refuse
abbrev pub sweep_refusal : {T : Type 0} → World T → Option Fault
sweep_refusal w = refuse (sized w) WrongMemory (fault_of (first_waiting w))

-- the first waiting cell is swept; the answer says whether there was one
pub record SweepsCell {T : Type 0} (some : Bool) (w v : World T) : Type 0 where
  pub found : Option ℕ
  pub first : first_waiting w ≡ Ok found
  pub told : some ≡ is_some found
  pub after : v ≡ storing (sweep_memory (Ok found) (memory_of w)) w

abbrev pub Sweeps : {T : Type 0} → Result Bool Fault → World T → World T → Type 0
Sweeps r w v = Turns (sweep_refusal w) w v (λ some. SweepsCell some w v) r
