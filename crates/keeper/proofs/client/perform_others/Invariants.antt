use Rattle.std.proofs.Common.{[], take}
use Rattle.keeper.specs.Course.{others_of, MadeByOthers}
use Rattle.keeper.proofs.client.perform_others.Given as goal

-- those of the calls so far were made that are not the program's own
abbrev pub invariant-loop-call : goal.invariant-loop-call
invariant-loop-call g l =
    let meaning = g.K.Enquiry.meaning in
    MadeByOthers l.program (others_of l.program (take l.call-index l.calls) []) (meaning l.initial.keeper) (meaning l.keeper)
