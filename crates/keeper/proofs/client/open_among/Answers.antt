-- Each turn leaves the program opening or ends its open; after the declared number of turns no step would be left.
use Rattle.std.proofs.Common.{◌≡◌, ℕ, suc, ◌+◌, ◌-◌, Ok, sym, refl, ap, subst, add-one, arith}
use Rattle.keeper.specs.declared.outcome.Outcome.{Outcome}
use Rattle.keeper.specs.Effects.{StepSays}
use Rattle.keeper.specs.Course.{turns, calls_in}
use Rattle.keeper.proofs.Waits.{Waiting, begins_waiting, others_waiting, turn_waiting, steps_left, step_allowed, step_answers, step_goes, ends_open, never_refused}
use Rattle.keeper.proofs.client.open_among.Goals as goal

pub returns-in_err-outcome : goal.returns-in_err-outcome
returns-in_err-outcome g c =
    let meaning = g.K.Enquiry.meaning in
    let laws = g.met.K.Enquiry.sound in
    let k = c.open.new.self in
    let n = c.perform_turn.new.keeper in
    let w = turn_waiting (meaning c.args.keeper.now) (meaning k) c.args.program c.declared-most.result.opening c.loop-turn.turn (calls_in c.args.others.now)
    (laws c.args.keeper.now) (laws k) c.in_ok-open.ensures (ap (λ d. d.opening) c.declared-most.ensures) c.loop-turn.invariant c.perform_turn.ensures in
    absurd (never_refused _ _ (step_allowed _ _ _ _ _ (laws n) w) c.in_err-outcome.ensures.0)

pub returns-in-Opened : goal.returns-in-Opened
returns-in-Opened g c =
    let meaning = g.K.Enquiry.meaning in
    let laws = g.met.K.Enquiry.sound in
    let k = c.open.new.self in
    let n = c.perform_turn.new.keeper in
    let o = c.step.new.self in
    let w = turn_waiting (meaning c.args.keeper.now) (meaning k) c.args.program c.declared-most.result.opening c.loop-turn.turn (calls_in c.args.others.now)
    (laws c.args.keeper.now) (laws k) c.in_ok-open.ensures (ap (λ d. d.opening) c.declared-most.ensures) c.loop-turn.invariant c.perform_turn.ensures in
    let says = subst (λ (x : Outcome). StepSays (meaning n) c.args.program (meaning o) (Ok x)) c.in-Opened.is c.in_ok-outcome.ensures in
    ends_open _ _ _ _ _ (laws n) w (calls_in c.args.others.now) (meaning o) c.in-Opened.serial c.in_ok-root.root c.loop-turn.turn refl says (laws o) c.in_ok-root.ensures
    (omega (arith, c.loop-turn-test.true, ap (λ d. d.opening) c.declared-most.ensures, ap (λ x. x.declared.opening) c.in_ok-open.ensures.1.after))

pub loop-turn-preserved : goal.loop-turn-preserved
loop-turn-preserved g c =
    λ m start.
    let meaning = g.K.Enquiry.meaning in
    let laws = g.met.K.Enquiry.sound in
    let n = c.perform_turn.new.keeper in
    let o = c.step.new.self in
    let p = c.args.program in
    let others = calls_in c.args.others.now in
    let turn = c.loop-turn.turn in
    let most = c.declared-most.result.opening in
    let w = others_waiting c.perform_turn.ensures (c.loop-turn.invariant m start) in
    let on = step_answers _ _ _ _ _ (laws n) w (meaning o) c.in_ok-outcome.outcome c.in_ok-outcome.ensures c.in_default.not-Opened in
    let says = subst (λ (x : Outcome). StepSays (meaning n) p (meaning o) (Ok x)) on c.in_ok-outcome.ensures in
    let e : suc (most - (turn + 1)) ≡ most - turn = omega (arith, c.loop-turn-test.true) in
    subst (λ (i : ℕ). Waiting m p (turns p others i) (most - (turn + 1)) (meaning o)) (sym (add-one turn))
    (step_goes _ _ _ _ _ (laws n) w (meaning o) (most - (turn + 1)) e says (laws o))

pub unreachable-requires : goal.unreachable-requires
unreachable-requires g c =
    let meaning = g.K.Enquiry.meaning in
    let laws = g.met.K.Enquiry.sound in
    let k = c.open.new.self in
    let w = c.loop-turn.invariant (meaning c.args.keeper.now)
    (begins_waiting (meaning c.args.keeper.now) (meaning k) c.args.program c.declared-most.result.opening (laws c.args.keeper.now) (laws k) c.in_ok-open.ensures (ap (λ d. d.opening) c.declared-most.ensures)) in
    omega (arith, steps_left _ _ _ _ _ (laws c.loop-turn.keeper) w, c.loop-turn-test.false)
