use Rattle.std.proofs.Common.{Some, refl, sym, ap, ◌∙◌, arith}
use Rattle.keeper.specs.declared.stage.Stage.TheVariants.{Open}
use Rattle.counting.specs.Model.{state_of}
use Rattle.counting.specs.Moves.{raised, count}
use Rattle.counting.specs.Bridge.{good, fields, view_row, few_users, at_work, opens_moving}
use Rattle.counting.specs.Steps.{current_held, open_good}
use Rattle.counting.proofs.state.Counting.end_open.Goals as goal

pub row_of-i-requires : goal.row_of-i-requires
row_of-i-requires c = let k = c.args.self.now in current_held (state_of k) (good k)

pub raised-requires : goal.raised-requires
raised-requires c = omega (arith, few_users c.args.self.now c.row_of-i.result.0 c.row_of-i.ensures.bound, ap count c.row_of-i.ensures.row)

pub invariant_of-self : goal.invariant_of-self
invariant_of-self c =
    let k = c.args.self.now in
    let s = k.current.serial in
    let held = fields _ _ (view_row k raised s c.args.p (Open s) c.row_of-i.result.0 (Some c.raised.result) c.row_of-i.ensures.value c.row_of-i.ensures.bound (c.raised.ensures ∙ sym (ap raised c.row_of-i.ensures.row)))
    (open_good (state_of k) (good k) c.args.p (at_work k c.args.p (opens_moving _ c.requires)) c.requires) in
    record { sized = held.0; filled = held.1.0; counted = held.1.1.0 }

pub returns : goal.returns
returns c =
    let k = c.args.self.now in
    let s = k.current.serial in
    record {
      after = view_row k raised s c.args.p (Open s) c.row_of-i.result.0 (Some c.raised.result) c.row_of-i.ensures.value c.row_of-i.ensures.bound (c.raised.ensures ∙ sym (ap raised c.row_of-i.ensures.row));
      value = refl;
    }
