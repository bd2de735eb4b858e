use Rattle.counting.specs.Model.{state_of}
use Rattle.counting.specs.Bridge.{good}
use Rattle.counting.proofs.Exact.{open_says}
use Rattle.counting.proofs.keep.CountingKeeper.open.Goals as goal

pub returns-clause-says : goal.returns-clause-says
returns-clause-says c =
    let k = c.args.self.now in
    let e = c.begin_open.ensures in
    open_says (state_of k) (good k) c.args.program (state_of c.begin_open.new.self) c.begin_open.result e.after e.value
