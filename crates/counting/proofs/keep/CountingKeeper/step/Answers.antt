use Rattle.counting.specs.Model.{state_of}
use Rattle.counting.specs.Bridge.{good}
use Rattle.counting.proofs.Exact.{step_says}
use Rattle.counting.proofs.keep.CountingKeeper.step.Goals as goal

pub returns-clause-says : goal.returns-clause-says
returns-clause-says c =
    let k = c.args.self.now in
    let e = c.take_step.ensures in
    step_says (state_of k) (good k) c.args.program (state_of c.take_step.new.self) c.take_step.result e.after e.value
