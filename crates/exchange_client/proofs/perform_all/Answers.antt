-- One turn is one call more.
use Rattle.std.proofs.Common.{◌≡◌, ℕ, ◌+◌, List, [], ◌∷◌, ◌++◌, take, sym, ap, ◌∙◌, subst, arith}
use Rattle.std.proofs.lemmas.List.{take_more, take_all}
use Rattle.exchange_theory.specs.declared.calls.Call.{Call}
use Rattle.exchange.specs.Worlds.{world_of}
use Rattle.exchange_client.specs.Rows.{Performed, turned}
use Rattle.exchange_client.proofs.Rows.{performed_more, turned_one, turned_none, turned_low}
use Rattle.exchange_client.proofs.perform_all.Goals as goal
use Rattle.exchange_client.proofs.perform_all.Goals.{then-is_err, else-is_err}

pub loop-call-preserved : goal.loop-call-preserved
loop-call-preserved g c =
    let row = c.args.calls.now in
    let i = c.loop-call.call-index in
    let n = c.loop-call.refused in
    let call = c.call-item.result in
    let answer = c.perform-answer.result in
    let w = world_of g.K.Enquiry.meaning c.perform-answer.new.self c.perform-answer.new.cells c.perform-answer.new.leaves in
    let e : take i row ++ (call ∷ []) ≡ take (i + 1) row = ap (λ (x : Call g.row.T.Denot). take i row ++ (x ∷ [])) c.call-item.is ∙ sym (take_more row i call c.loop-call-test.true) in
    let counted : c.if-is_err.refused ≡ n + turned answer = elim c.if-is_err.branch [
      | then-is_err w ↦ w.refused-is ∙ ap (λ k. n + k) (sym (turned_one answer (sym c.is_err.ensures.value ∙ w.if-is_err.true)))
      | else-is_err w ↦ w.refused-is ∙ omega (arith, turned_none answer (sym c.is_err.ensures.value ∙ w.if-is_err.false))
    ] in (
      omega (arith, c.loop-call.invariant.0, counted, turned_low answer),
      λ leaf h r p.
          subst (λ (cs : List (Call g.row.T.Denot)). Performed leaf h cs c.if-is_err.refused w) e
          (subst (λ (k : ℕ). Performed leaf h (take i row ++ (call ∷ [])) k w) (sym counted)
          (performed_more (take i row) n call answer (c.loop-call.invariant.1 leaf h r p) c.perform-answer.ensures.runs)),
    )

pub returns : goal.returns
returns g c = λ leaf h r p.
    subst (λ (cs : List (Call g.row.T.Denot)). Performed leaf h cs c.loop-call.refused (world_of g.K.Enquiry.meaning c.loop-call.exchange c.loop-call.cells c.loop-call.leaves)) (take_all c.loop-call.call-index c.args.calls.now c.loop-call-test.false)
    (c.loop-call.invariant.1 leaf h r p)
