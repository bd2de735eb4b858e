-- Each acting call of the counting keeper, exactly: the state after it, and its answer, from the state before it.
use Rattle.std.specs.Prelude.{ℕ, None, Result}
use Rattle.keeper.specs.declared.stage.Stage.TheVariants.{Opening, Offering, Closing}
use Rattle.keeper.specs.declared.outcome.Outcome.{Outcome}
use Rattle.keeper.specs.declared.fault.Fault.{Fault}
use Rattle.keeper.specs.Stages.{serial_of}
use Rattle.keeper.specs.Effects.{answer, settled, open_fault, publish_fault, close_fault, step_fault}
use Rattle.counting.specs.State.{State}
use Rattle.counting.specs.Moves.{meaning_of, stage_at, put, stepped, answered}

abbrev pub opens : State → ℕ → State
opens v p = settled (open_fault (meaning_of v) p) v (put v p (Opening v.current.serial None))

abbrev pub open_answer : State → ℕ → Result (Unit {0}) Fault
open_answer v p = answer (open_fault (meaning_of v) p) tt

abbrev pub publishes : State → ℕ → ℕ → State
publishes v p r = settled (publish_fault (meaning_of v) p) v (put v p (Offering r (serial_of (stage_at v p))))

abbrev pub publish_answer : State → ℕ → Result (Unit {0}) Fault
publish_answer v p = answer (publish_fault (meaning_of v) p) tt

abbrev pub closes : State → ℕ → State
closes v p = settled (close_fault (meaning_of v) p) v (put v p (Closing (serial_of (stage_at v p))))

abbrev pub close_answer : State → ℕ → Result (Unit {0}) Fault
close_answer v p = answer (close_fault (meaning_of v) p) tt

abbrev pub steps : State → ℕ → State
steps v p = settled (step_fault (meaning_of v) p) v (stepped v p (stage_at v p))

abbrev pub step_answer : State → ℕ → Result Outcome Fault
step_answer v p = answer (step_fault (meaning_of v) p) (answered v (stage_at v p))
