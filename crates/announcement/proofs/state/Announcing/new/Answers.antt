use Rattle.std.proofs.Common.{◌≤◌, arith}
use Rattle.std.proofs.lemmas.Bool.Decides.{nat_tests}
use Rattle.announcement_theory.proofs.Arrays.{view_fresh}
use Rattle.announcement_theory.proofs.Start.{made_good}
use Rattle.announcement.specs.Exact.{kept}
use Rattle.announcement.proofs.state.Announcing.new.Goals as goal

pub invariant_of-result : goal.invariant_of-result
invariant_of-result c =
    let within = c.in_ok-check_limits.ensures in
    let few : c.args.programs ≤ 8 = grind (arith, nat_tests, within) in
    record { always = kept _ _ (view_fresh c.args.programs c.args.last few) (made_good c.args.programs c.args.last within) }

pub returns : goal.returns
returns c =
    let few : c.args.programs ≤ 8 = grind (arith, nat_tests, c.in_ok-check_limits.ensures) in
    (c.in_ok-check_limits.ensures, view_fresh c.args.programs c.args.last few)
