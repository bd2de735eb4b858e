-- The step that a program stands at.
use Rattle.std.specs.Prelude.{ℕ, Some, None, Option, Result, nat_lt}
use Rattle.keeper.specs.declared.stage.Stage.{Stage}
use Rattle.keeper.specs.declared.stage.Stage.TheVariants.{Idle, Opening, Open as OpenOn, Offering, Offered, Closing}
use Rattle.keeper.specs.declared.fault.Refusal.TheVariants.{NoProgram}
use Rattle.keeper.specs.declared.fault.Fault.{Fault}
use Rattle.keeper.specs.Refusals.{unless}
use Rattle.keeper.specs.Effects.{answer}
use Rattle.counting.specs.declared.label.Label.{Label}
use Rattle.counting.specs.declared.label.Label.TheVariants.{Open, Publish, Close}
use Rattle.counting.specs.State.{State}
use Rattle.counting.specs.Moves.{stage_at}

abbrev pub label_of : Stage → Option Label
label_of Idle = None
label_of (Opening since bound) = Some Open
label_of (OpenOn s) = None
label_of (Offering r s) = Some Publish
label_of (Offered s) = None
label_of (Closing s) = Some Close

abbrev pub label_answer : State → ℕ → Result (Option Label) Fault
label_answer v p = answer (unless (nat_lt p v.programs) NoProgram None) (label_of (stage_at v p))
