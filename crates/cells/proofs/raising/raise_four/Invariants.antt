-- The fields so far were raised.
use Rattle.std.proofs.Common.{◌≡◌, take}
use Rattle.std.specs.List.{fold}
use Rattle.cells_theory.specs.Build.{raise_field}
use Rattle.cells.proofs.raising.raise_four.Given as goal

abbrev pub invariant-loop-f : goal.invariant-loop-f
invariant-loop-f l = l.cells ≡ fold (λ cs f. raise_field f cs) l.initial.cells (take l.f-index l.f-items)
