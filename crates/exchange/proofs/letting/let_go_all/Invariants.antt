use Rattle.std.proofs.Common.{◌≡◌, drop}
use Rattle.cells_theory.specs.Memory.{memory}
use Rattle.exchange_theory.specs.World.{let_go_places}
use Rattle.exchange.proofs.letting.let_go_all.Given as goal

-- what is left to let go of comes to the same
abbrev pub invariant-loop-named : goal.invariant-loop-named
invariant-loop-named l = let_go_places (drop l.named-index l.places) (memory l.heads l.cells) ≡ let_go_places l.places (memory l.initial.heads l.initial.cells)
