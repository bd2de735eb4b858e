-- The fields so far were let go.
use Rattle.std.proofs.Common.{◌≡◌, take}
use Rattle.std.specs.List.{fold}
use Rattle.cells_theory.specs.Memory.{memory}
use Rattle.cells_theory.specs.LetGo.{let_go_field}
use Rattle.cells.proofs.letting_go.let_go_four.Given as goal

abbrev pub invariant-loop-field : goal.invariant-loop-field
invariant-loop-field l = memory l.heads l.cells ≡ fold (λ m f. let_go_field f m) (memory l.initial.heads l.initial.cells) (take l.field-index l.field-items)
