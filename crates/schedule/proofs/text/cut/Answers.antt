use Rattle.std.proofs.Common.{◌==◌, sym, ◌∙◌, rules, tests}
use Rattle.std.proofs.lemmas.Iterator.{YieldsList-from_slice}
use Rattle.std.proofs.lemmas.Iterator.Search.{position_from_yields_List}
use Rattle.schedule.proofs.Marks.{cut_first, cut_nowhere}
use Rattle.schedule.proofs.text.cut.Goals as goal

pub returns-in_err-i : goal.returns-in_err-i
returns-in_err-i c =
    let mark = c.args.mark in
    let found = position_from_yields_List (λ b. b == mark) _ _ c.position.result c.position.ensures.ran (YieldsList-from_slice c.args.text.now cc) (λ x b q k. search (rules, tests)) in
    rw c.from_residual.ensures (cut_nowhere mark c.args.text.now (sym found ∙ c.in_err-i.was))

pub returns : goal.returns
returns c =
    let mark = c.args.mark in
    let found = position_from_yields_List (λ b. b == mark) _ _ c.position.result c.position.ensures.ran (YieldsList-from_slice c.args.text.now cc) (λ x b q k. search (rules, tests)) in
    cut_first mark c.args.text.now c.in_ok-i.i (sym found ∙ c.in_ok-i.was)
