-- What letting go keeps follows from what it does.
use Rattle.cells_theory.specs.Memory.{memory}
use Rattle.cells_theory.proofs.Counts.{let_go_promises}
use Rattle.cells.proofs.letting_go.let_go.Goals as goal

pub returns-clause-promises : goal.returns-clause-promises
returns-clause-promises c =
    let_go_promises c.args.c (memory c.args.heads.now c.args.cells.now) (memory c.lower.new.heads c.lower.new.cells) c.lower.ensures
