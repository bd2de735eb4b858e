use Rattle.std.proofs.Common.{List, [], sym, subst, ltb-false}
use Rattle.keeper.specs.declared.client.Action.{Action}
use Rattle.keeper.specs.Course.{MadeByOthers, none, others_of}
use Rattle.keeper.proofs.Waits.{calls_past}
use Rattle.keeper.proofs.client.perform_turn.Goals as goal

pub returns-in_default : goal.returns-in_default
returns-in_default g c =
    let meaning = g.K.Enquiry.meaning in
    subst (λ (cs : List Action). MadeByOthers c.args.program (others_of c.args.program cs []) (meaning c.args.keeper.now) (meaning c.args.keeper.now))
    (calls_past c.args.others.now c.args.turn (ltb-false _ _ (sym c.in_default.ensures.lookup.0))) (none (g.met.K.Enquiry.sound c.args.keeper.now))
