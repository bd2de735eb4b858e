-- Everything that a call can see or change, at one moment.
use Rattle.std.specs.Prelude.{ℕ, List, [], ◌∷◌, replicate, Some, None, Option, slice_index_or, slice_set}
use Rattle.keeper.specs.Meaning.{Meaning}
use Rattle.cells_theory.specs.declared.cell.Cell.{Cell}
use Rattle.cells_theory.specs.declared.cell.Heads.{Heads}
use Rattle.cells_theory.specs.Memory.{Memory, memory}
use Rattle.cells_theory.specs.LetGo.{let_go}
use Rattle.exchange_theory.specs.declared.row.Row.{Row}
use Rattle.exchange_theory.specs.declared.desk.Desk.{Desk}

-- a row: the reading and the building places of a program, the building place that it offered last and the root that it closed last
abbrev pub row : List (Option ℕ) → List (Option ℕ) → ℕ → ℕ → Row
row rs bs o c = record { reading = rs; building = bs; offered = o; closing = c }

-- the row of a program with no places, which offered place b and closed root c last
abbrev pub emptied : ℕ → ℕ → Row
emptied b c = row (replicate 8 None) (replicate 8 None) b c

-- the row of program p; a program that is not there has nothing
abbrev pub row_in : List Row → ℕ → Row
row_in rs p = slice_index_or rs p (emptied 0 0)

-- a row with o in reading place a, and with o in building place b
abbrev pub row_reading : ℕ → Option ℕ → Row → Row
row_reading a o r = row (slice_set r.reading a o) r.building r.offered r.closing

abbrev pub row_building : ℕ → Option ℕ → Row → Row
row_building b o r = row r.reading (slice_set r.building b o) r.offered r.closing

-- what the keeper means; P and N; the heads of the two chains; a row for each program; the cells and leaves of the host
pub record World (T : Type 0) : Type 0 where
  pub keeper : Meaning
  pub programs : ℕ
  pub size : ℕ
  pub heads : Heads
  pub rows : List Row
  pub cells : List Cell
  pub leaves : List T

-- the world of a keeper's meaning, a desk, and lent cells and leaves
abbrev pub world : {T : Type 0} → Meaning → Desk → List Cell → List T → World T
world k d cs ls = record {
  keeper = k;
  programs = d.programs;
  size = d.places.cells;
  heads = d.heads;
  rows = d.places.rows;
  cells = cs;
  leaves = ls;
}

abbrev pub row_at : {T : Type 0} → World T → ℕ → Row
row_at w p = row_in w.rows p

-- what reading place a, and building place b, of program p names
abbrev pub reading_at : {T : Type 0} → World T → ℕ → ℕ → Option ℕ
reading_at w p a = slice_index_or (row_at w p).reading a None

abbrev pub building_at : {T : Type 0} → World T → ℕ → ℕ → Option ℕ
building_at w p b = slice_index_or (row_at w p).building b None

-- the building place that program p offered last, and the root of the version that it closed last
abbrev pub offered_at : {T : Type 0} → World T → ℕ → ℕ
offered_at w p = (row_at w p).offered

abbrev pub closed_at : {T : Type 0} → World T → ℕ → ℕ
closed_at w p = (row_at w p).closing

-- the memory of cells
abbrev pub memory_of : {T : Type 0} → World T → Memory
memory_of w = memory w.heads w.cells

-- w with another keeper's meaning, and nothing else changed
abbrev pub keeping : {T : Type 0} → Meaning → World T → World T
keeping k w = record w { keeper = k }

-- w with another row for program p
abbrev pub with_row : {T : Type 0} → ℕ → Row → World T → World T
with_row p r w = record w { rows = slice_set w.rows p r }

-- w with another memory of cells
abbrev pub storing : {T : Type 0} → Memory → World T → World T
storing m w = record w { heads = m.heads; cells = m.cells }

-- w with other leaves
abbrev pub leaving : {T : Type 0} → List T → World T → World T
leaving ls w = record w { leaves = ls }

-- w with o in reading place a of program p
abbrev pub reading : {T : Type 0} → ℕ → ℕ → Option ℕ → World T → World T
reading p a o w = with_row p (row_reading a o (row_at w p)) w

-- w with o in building place b of program p
abbrev pub building : {T : Type 0} → ℕ → ℕ → Option ℕ → World T → World T
building p b o w = with_row p (row_building b o (row_at w p)) w

-- w in which program p offered building place b last
abbrev pub offering : {T : Type 0} → ℕ → ℕ → World T → World T
offering p b w = with_row p (row (row_at w p).reading (row_at w p).building b (row_at w p).closing) w

-- w in which program p has no places, and closed a version with root c last
abbrev pub closing : {T : Type 0} → ℕ → ℕ → World T → World T
closing p c w = with_row p (emptied (row_at w p).offered c) w

-- what a place names, if anything, is let go
abbrev pub let_go_place : Option ℕ → Memory → Memory
let_go_place None m = m
let_go_place (Some c) m = let_go c m

-- what places name is let go, from the first on
abbrev pub let_go_places : List (Option ℕ) → Memory → Memory
let_go_places [] m = m
let_go_places (o ∷ os) m = let_go_places os (let_go_place o m)
