use Rattle.std.proofs.Common.{arith}
use Rattle.schedule.proofs.Figures.{numbered}
use Rattle.schedule.proofs.text.number.Goals as goal

pub returns : goal.returns
returns c = numbered c.args.most c.args.text.now c.figures.result (omega (arith, c.ranges.most.fits)) c.figures.ensures
