use Rattle.std.proofs.Common.{◌<◌, ap, ◌∙◌, arith}
use Rattle.std.proofs.lemmas.Bool.{lt-ltb}
use Rattle.keeper.specs.Stages.{has, engaged}
use Rattle.counting.specs.Bridge.{stage_here}
use Rattle.counting.proofs.Calls.{used_level, not_later}
use Rattle.counting.proofs.state.Counting.begin_publish.Goals as goal

pub set_stage-requires : goal.set_stage-requires
set_stage-requires c =
    let k = c.args.self.now in
    let p = c.in_ok-p.p in
    let seat = c.in_ok-p.ensures in
    let h : c.in_ok-p.p < c.args.self.now.programs = omega (arith, seat) in
    let on = c.in_ok-over.ensures in
    record {
      within = h;
      level = used_level k p h c.in_ok-over.over (ap has on);
      calm = lt-ltb _ _ (omega (arith, not_later k p h c.in_ok-over.over (ap engaged (stage_here k p h ∙ on)), c.if-self.false, k.sized));
    }
