use Rattle.std.proofs.Common.{◌≤◌, arith}
use Rattle.std.proofs.lemmas.Bool.Decides.{nat_tests}
use Rattle.counting.specs.Bridge.{fields, view_fresh, fresh_good}
use Rattle.counting.proofs.state.Counting.new.Goals as goal

pub invariant_of-result : goal.invariant_of-result
invariant_of-result c =
    let few : c.args.programs ≤ 8 = grind (arith, nat_tests, c.in_ok-check_limits.ensures) in
    let limit : c.args.last ≤ 4000000000 = grind (arith, nat_tests, c.in_ok-check_limits.ensures) in
    let held = fields _ _ (view_fresh c.args.programs c.args.last few) (fresh_good c.args.programs c.args.last few limit) in
    record { sized = held.0; filled = held.1.0; counted = held.1.1.0 }

pub returns : goal.returns
returns c =
    let few : c.args.programs ≤ 8 = grind (arith, nat_tests, c.in_ok-check_limits.ensures) in
    (c.in_ok-check_limits.ensures, view_fresh c.args.programs c.args.last few)
