-- What a build keeps follows from what it does.
use lib.ListN.{length}
use Rattle.cells_theory.specs.Memory.{memory}
use Rattle.cells_theory.proofs.Building.{build_counts, build_promises}
use Rattle.cells.proofs.building.build.Goals as goal

pub returns-clause-counts : goal.returns-clause-counts
returns-clause-counts g c =
    let e = c.fill_first.ensures in
    let m = memory c.args.heads.now c.args.cells.now in
    let n = memory c.fill_first.new.heads c.fill_first.new.cells in
    build_counts c.args.fields m (length c.args.leaves.now) c.fill_first.result n e.answer e.after

pub returns-clause-promises : goal.returns-clause-promises
returns-clause-promises g c =
    let e = c.fill_first.ensures in
    let m = memory c.args.heads.now c.args.cells.now in
    let n = memory c.fill_first.new.heads c.fill_first.new.cells in
    build_promises c.args.fields c.args.leaf m c.args.leaves.now c.fill_first.result n c.fill_first.new.leaves e.answer e.after e.leaves
