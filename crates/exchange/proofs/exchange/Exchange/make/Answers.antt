-- A making begins a run.
use Rattle.exchange_theory.proofs.Runs.{begins_run}
use Rattle.exchange.specs.declared.exchange.Exchange.{Exchange}
use Rattle.exchange.specs.Making.{fault_alone}
use Rattle.exchange.specs.Worlds.{world_of}
use Rattle.exchange.proofs.exchange.Exchange.make.Goals as goal

pub returns-clause-begins : goal.returns-clause-begins
returns-clause-begins g c =
    let meaning = g.K.Enquiry.meaning in
    let cells = c.prepare.new.cells in
    let leaves = c.prepare.new.leaves in
    begins_run c.args.leaf (meaning c.args.keeper) c.args.cells.now c.args.leaves.now (λ (x : Exchange g.row.K.Denot). world_of meaning x cells leaves) cells leaves
    (fault_alone c.prepare.result) c.prepare.ensures.makes (λ x. g.met.K.Enquiry.sound x.keeper)
