use Rattle.std.proofs.Common.{◌≡◌, true, false, cond, sym, refl, ap, ◌∙◌, Some, None}
use Rattle.keeper.specs.declared.outcome.Outcome.TheVariants.{HandedOut, Nothing}
use Rattle.keeper.specs.Stages.{moving}
use Rattle.counting.specs.Model.{state_of}
use Rattle.counting.specs.Moves.{last_one, count, lowered}
use Rattle.counting.specs.Bridge.{good, at_work, fields, view_closed, frees, stays}
use Rattle.counting.specs.Steps.{closing_held, close_good}
use Rattle.counting.proofs.state.Counting.end_close.Goals as goal
use Rattle.counting.proofs.state.Counting.end_close.Goals.{else-row-eq1-via-then-row-eq1+else-serial-self, else-row-eq1-via-else-row-eq1, Then-serial-self, After-lowered}

pub row_of-i-requires : goal.row_of-i-requires
row_of-i-requires c = let k = c.args.self.now in closing_held (state_of k) (good k) c.args.p (at_work k c.args.p (ap moving c.requires)) c.args.serial c.requires

handed : (c : goal.Then-serial-self) → last_one (state_of c.args.self.now) c.args.serial ≡ true
handed c = frees c.args.self.now c.args.serial c.row_of-i.result.0 c.row_of-i.ensures.value c.row_of-i.ensures.bound (ap count c.row_of-i.ensures.row ∙ c.if-row-eq1.true) c.if-serial-self.true

left : (c : goal.After-lowered) → last_one (state_of c.args.self.now) c.args.serial ≡ false
left c = stays c.args.self.now c.args.serial c.row_of-i.result.0 c.row_of-i.ensures.value c.row_of-i.ensures.bound
    (λ one. elim c.else-row-eq1.branch [
      | else-row-eq1-via-then-row-eq1+else-serial-self w ↦ w.if-serial-self.false
      | else-row-eq1-via-else-row-eq1 w ↦ absurd (w.if-row-eq1.false (sym (ap count c.row_of-i.ensures.row) ∙ one))
    ])

pub invariant_of-self : goal.invariant_of-self
invariant_of-self c =
    let k = c.args.self.now in
    let held = fields _ _ (view_closed k true c.args.serial c.args.p c.row_of-i.result.0 None (handed c) c.row_of-i.ensures.value c.row_of-i.ensures.bound refl)
    (close_good (state_of k) (good k) c.args.p (at_work k c.args.p (ap moving c.requires)) c.args.serial c.requires) in
    record { sized = held.0; filled = held.1.0; counted = held.1.1.0 }

pub returns-then-serial-self : goal.returns-then-serial-self
returns-then-serial-self c =
    let k = c.args.self.now in
    let l = handed (goal.at.returns-then-serial-self c).Then-serial-self in
    record {
      after = view_closed k true c.args.serial c.args.p c.row_of-i.result.0 None l c.row_of-i.ensures.value c.row_of-i.ensures.bound refl;
      value = sym (ap (λ b. cond b (HandedOut c.args.serial) Nothing) l);
    }

pub invariant_of-self-2 : goal.invariant_of-self-2
invariant_of-self-2 c =
    let k = c.args.self.now in
    let held = fields _ _ (view_closed k false c.args.serial c.args.p c.row_of-i.result.0 (Some c.lowered.result) (left c) c.row_of-i.ensures.value c.row_of-i.ensures.bound (c.lowered.ensures ∙ sym (ap lowered c.row_of-i.ensures.row)))
    (close_good (state_of k) (good k) c.args.p (at_work k c.args.p (ap moving c.requires)) c.args.serial c.requires) in
    record { sized = held.0; filled = held.1.0; counted = held.1.1.0 }

pub returns : goal.returns
returns c =
    let k = c.args.self.now in
    let l = left (goal.at.returns c).After-lowered in
    record {
      after = view_closed k false c.args.serial c.args.p c.row_of-i.result.0 (Some c.lowered.result) l c.row_of-i.ensures.value c.row_of-i.ensures.bound (c.lowered.ensures ∙ sym (ap lowered c.row_of-i.ensures.row));
      value = sym (ap (λ b. cond b (HandedOut c.args.serial) Nothing) l);
    }
