use Rattle.std.proofs.Common.{◌≡◌, ℕ, ◌<◌, Ok, None, get_or, sym, ap, ◌∙◌, subst, arith}
use Rattle.keeper.specs.Stages.{has}
use Rattle.keeper.specs.Effects.{root_answer}
use Rattle.counting.specs.Model.{state_of}
use Rattle.counting.specs.Moves.{meaning_of, stage_at, root_in}
use Rattle.counting.specs.Bridge.{good, stage_here}
use Rattle.counting.specs.Means.{has_engaged}
use Rattle.counting.specs.Steps.{used_held}
use Rattle.counting.proofs.Calls.{root_says}
use Rattle.counting.proofs.keep.CountingEnquiry.root.Goals as goal

pub row_of-requires : goal.row_of-requires
row_of-requires c =
    let k = c.args.self.now in
    let p = c.in_ok-p.p in
    let seat = c.in_ok-p.ensures in
    let h : c.in_ok-p.p < c.args.self.now.programs = omega (arith, seat) in
    used_held (state_of k) (good k) p c.in-Some.serial h (has_engaged (stage_at (state_of k) p) _ (ap has (stage_here k p h) ∙ sym c.in-Some.ensures))

pub returns : goal.returns
returns c = told _ (cc)
  where
    told : (r : ℕ) → r ≡ root_in (get_or c.args.self.now.rows c.row_of.result.0 None) → Ok r ≡ root_answer (meaning_of (state_of c.args.self.now)) c.args.program
    told r is =
        let k = c.args.self.now in
        let p = c.in_ok-p.p in
        let seat = c.in_ok-p.ensures in
        subst (λ q. Ok r ≡ root_answer (meaning_of (state_of k)) q) seat.0
        (root_says k p (omega (arith, seat)) c.in-Some.serial c.row_of.result.0 r c.in-Some.ensures c.row_of.ensures.value c.row_of.ensures.bound is)
