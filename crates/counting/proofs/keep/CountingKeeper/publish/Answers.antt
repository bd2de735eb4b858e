use Rattle.counting.specs.Model.{state_of}
use Rattle.counting.specs.Bridge.{good}
use Rattle.counting.proofs.Exact.{publish_says}
use Rattle.counting.proofs.keep.CountingKeeper.publish.Goals as goal

pub returns-clause-says : goal.returns-clause-says
returns-clause-says c =
    let k = c.args.self.now in
    let e = c.begin_publish.ensures in
    publish_says (state_of k) (good k) c.args.program c.args.root (state_of c.begin_publish.new.self) c.begin_publish.result e.after e.value
