-- A look shows what the tree of the cell shows.
use Rattle.cells_theory.proofs.Looking.{look_promises}
use Rattle.cells.proofs.looking.look.Goals as goal

pub returns-clause-promises : goal.returns-clause-promises
returns-clause-promises g c =
    look_promises c.args.cells.now c.args.leaves.now c.args.c c.show.result c.show.ensures
