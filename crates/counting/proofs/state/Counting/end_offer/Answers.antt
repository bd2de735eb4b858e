use Rattle.std.proofs.Common.{◌+◌, cond, Some, sym, ap, ◌∙◌, arith}
use Rattle.std.proofs.lemmas.Bool.{eq-eqb}
use Rattle.keeper.specs.Stages.{engaged, moving}
use Rattle.keeper.specs.Meaning.{version}
use Rattle.keeper.specs.declared.stage.Stage.TheVariants.{Offered}
use Rattle.keeper.specs.declared.outcome.Outcome.TheVariants.{Accepted, Stale}
use Rattle.counting.specs.Model.{state_of}
use Rattle.counting.specs.Moves.{accepts, put}
use Rattle.counting.specs.State.{taken}
use Rattle.counting.specs.Bridge.{good, at_work, fields, view_changed}
use Rattle.counting.specs.Good.{changed}
use Rattle.counting.specs.Steps.{room, accept_good}
use Rattle.counting.proofs.state.Counting.end_offer.Goals as goal

pub vacant-i-requires : goal.vacant-i-requires
vacant-i-requires c =
    let k = c.args.self.now in
    omega (arith, room (state_of k) (good k) c.args.p (at_work k c.args.p (ap moving c.requires)) (ap engaged c.requires ∙ ap (λ s. Some s) c.if-over-self.false), k.sized)

pub invariant_of-self : goal.invariant_of-self
invariant_of-self c =
    let k = c.args.self.now in
    let n = version (c.args.over + 1) c.args.root in
    let held = fields _ _ (view_changed k n c.args.p (Offered c.args.over) c.vacant-i.result (taken n 0) ∙ ap (λ i. changed (state_of k) n c.args.p (Offered c.args.over) i (taken n 0)) c.vacant-i.ensures.value)
    (accept_good (state_of k) (good k) c.args.p (at_work k c.args.p (ap moving c.requires)) c.args.root c.args.over c.requires c.if-over-self.false) in
    record { sized = held.0; filled = held.1.0; counted = held.1.1.0 }

pub returns : goal.returns
returns c =
    let k = c.args.self.now in
    let n = version (c.args.over + 1) c.args.root in
    let same = eq-eqb c.args.over k.current.serial c.if-over-self.false in
    record {
      after = view_changed k n c.args.p (Offered c.args.over) c.vacant-i.result (taken n 0) ∙ ap (λ i. changed (state_of k) n c.args.p (Offered c.args.over) i (taken n 0)) c.vacant-i.ensures.value
          ∙ sym (ap (λ b. cond b (accepts (state_of k) c.args.p c.args.root c.args.over) (put (state_of k) c.args.p (Offered c.args.over))) same);
      value = sym (ap (λ b. cond b (Accepted (c.args.over + 1)) Stale) same);
    }
