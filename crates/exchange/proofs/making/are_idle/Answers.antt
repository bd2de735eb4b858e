-- The walk answers what holds of the programs below the last one.
use Rattle.std.proofs.Common.{refl, ap, ◌∙◌, rules, arith}
use Rattle.std.proofs.lemmas.Iterator.{YieldsList-from_range}
use Rattle.std.proofs.lemmas.Iterator.Search.{all_from_yields_List}
use Rattle.keeper.specs.Stages.{idle}
use Rattle.keeper.specs.Meaning.{stage_of}
use Rattle.exchange_theory.specs.Make.{idle_below}
use Rattle.exchange.proofs.Idles.{all_idle}
use Rattle.exchange.proofs.making.are_idle.Goals as goal

pub returns : goal.returns
returns g c =
    let m = g.K.Enquiry.meaning c.args.keeper.now in
    all_from_yields_List (λ p. idle (stage_of m p)) _ _ c.all.result c.all.ensures.ran (YieldsList-from_range 0 c.programs.result c.programs.result refl (omega arith)) (λ x b q k. search rules)
    ∙ all_idle m c.programs.result ∙ ap (idle_below m) c.programs.ensures
