-- The cells so far are fresh.
use mathlib.Core.Path.{◌≡◌}
use Prim.Native.Nat.{ℕ, ◌<◌}
use Rattle.cells_theory.specs.Memory.{cell_at}
use Rattle.cells_theory.specs.Make.{fresh_cell}
use Rattle.cells.proofs.making.make_cells.Given as goal

abbrev pub invariant-loop-i : goal.invariant-loop-i
invariant-loop-i l = (k : ℕ) → k < l.i → cell_at l.cells k ≡ fresh_cell l.n k
