-- Those of the fields so far that name the cell are counted: no more than there are.
use Rattle.std.proofs.Common.{◌≡◌, ◌≤◌, take}
use Rattle.std.specs.List.{sum_by}
use Rattle.cells_theory.specs.Memory.{name_of}
use Rattle.cells.proofs.raising.times.Given as goal

abbrev pub invariant-loop-field : goal.invariant-loop-field
invariant-loop-field l = (l.times ≡ sum_by (name_of l.c) (take l.field-index l.field-items)) × (l.times ≤ l.field-index)
