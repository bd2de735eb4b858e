use Rattle.schedule.proofs.Lines.{reads}
use Rattle.schedule.proofs.line.read.Goals as goal

pub returns : goal.returns
returns c = reads c.args.line.now c.call_in.result c.call_in.ensures
