-- A call carries on every run that led to it.
use Rattle.exchange_theory.proofs.Runs.{carries_on}
use Rattle.exchange.proofs.exchange.Exchange.perform.Goals as goal

pub returns-clause-runs : goal.returns-clause-runs
returns-clause-runs g c = carries_on c.args.call c.dispatch.result _ _ c.dispatch.ensures (g.met.K.Enquiry.sound c.dispatch.new.self.keeper)
