-- The fields so far can be raised.
use Rattle.std.proofs.Common.{◌≡◌, true, take}
use Rattle.std.specs.List.{list_all}
use Rattle.cells_theory.specs.Build.{raisable}
use Rattle.cells.proofs.raising.may_raise_all.Given as goal

abbrev pub invariant-loop-field : goal.invariant-loop-field
invariant-loop-field l = list_all (raisable l.cells l.fields) (take l.field-index l.fields) ≡ true
