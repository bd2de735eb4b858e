-- What a sweep keeps follows from what it does.
use Rattle.cells_theory.specs.Memory.{memory}
use Rattle.cells_theory.proofs.Sweeping.{sweep_promises}
use Rattle.cells.proofs.sweeping.sweep.Goals as goal

pub returns-clause-promises : goal.returns-clause-promises
returns-clause-promises g c =
    let e = c.free_first.ensures in
    let m = memory c.args.heads.now c.args.cells.now in
    let n = memory c.free_first.new.heads c.free_first.new.cells in
    sweep_promises m c.args.leaves.now c.free_first.result n e.answer e.after
