use Rattle.std.proofs.Common.{◌≡◌, drop}
use Rattle.schedule.specs.Pieces.{number_in, with_digits}
use Rattle.schedule.proofs.text.figures.Given as goal

-- what is left, behind the number so far, gives the number of the whole
abbrev pub invariant-loop-b : goal.invariant-loop-b
invariant-loop-b l = number_in l.most l.text ≡ with_digits l.most l.n (drop l.b-index l.text)
