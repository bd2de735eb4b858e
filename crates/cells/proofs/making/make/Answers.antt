-- A fresh memory is sound.
use Rattle.cells_theory.proofs.Making.{make_promises}
use Rattle.cells.proofs.making.make.Goals as goal

pub returns-clause-promises : goal.returns-clause-promises
returns-clause-promises g c =
    let e = c.prepare.ensures in
    make_promises c.args.leaf c.prepare.result c.prepare.new.cells c.args.leaves.now c.prepare.new.leaves e.heads e.cells e.leaves
