use Rattle.std.proofs.Common.{◌+◌, [], take, sym, ◌∙◌, subst}
use Rattle.keeper.specs.declared.client.Action.TheVariants.{Open}
use Rattle.keeper.specs.Course.{MadeByOthers, none, others_of}
use Rattle.keeper.proofs.Waits.{others_made, own_skipped}
use Rattle.keeper.proofs.client.perform_others.Goals as goal
use Rattle.keeper.proofs.client.perform_others.Goals.{then-program, else-program}

pub loop-call-init : goal.loop-call-init
loop-call-init g c = none (g.met.K.Enquiry.sound c.args.keeper.now)

pub loop-call-preserved : goal.loop-call-preserved
loop-call-preserved g c =
    let i = c.loop-call.call-index in
    let calls = c.args.calls.now in
    let meaning = g.K.Enquiry.meaning in
    let past = others_of c.args.program in
    elim c.if-program.branch [
      | then-program w ↦
          let o = w.perform.new.keeper in
          subst (λ (k : g.row.K.Denot). MadeByOthers c.args.program (past (take (i + 1) calls) []) (meaning c.args.keeper.now) (meaning k)) (sym w.keeper-is)
          (others_made c.args.program calls i (Open 0) c.loop-call-test.true (λ e. w.if-program.true (c.program.ensures ∙ e)) w.perform.ensures (g.met.K.Enquiry.sound o) c.loop-call.invariant)
      | else-program w ↦
          subst (λ (k : g.row.K.Denot). MadeByOthers c.args.program (past (take (i + 1) calls) []) (meaning c.args.keeper.now) (meaning k)) (sym w.keeper-is)
          (own_skipped c.args.program calls i (Open 0) c.loop-call-test.true (sym c.program.ensures ∙ w.if-program.false) c.loop-call.invariant)
    ]
