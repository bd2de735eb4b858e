use Rattle.std.proofs.Common.{◌-◌, []}
use Rattle.keeper.specs.Meaning.{Meaning}
use Rattle.keeper.specs.Course.{turns, calls_in}
use Rattle.keeper.proofs.Waits.{Waiting}
use Rattle.keeper.proofs.client.open_among.Given as goal

-- the turns so far were made, and the program is still opening, with no more steps left than turns
abbrev pub invariant-loop-turn : goal.invariant-loop-turn
invariant-loop-turn g l =
    let meaning = g.K.Enquiry.meaning in
    (m : Meaning) → Waiting m l.program [] l.most (meaning l.initial.keeper)
    → Waiting m l.program (turns l.program (calls_in l.others) l.turn) (l.most - l.turn) (meaning l.keeper)
