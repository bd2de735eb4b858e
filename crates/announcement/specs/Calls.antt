-- Each acting call of the announcement keeper, exactly: the state after it, and its answer, from the state before it.
use Rattle.std.specs.Prelude.{ℕ, None, Option, Result, nat_lt}
use Rattle.keeper.specs.declared.outcome.Outcome.{Outcome}
use Rattle.keeper.specs.declared.fault.Fault.{Fault}
use Rattle.keeper.specs.declared.fault.Refusal.TheVariants.{NoProgram}
use Rattle.keeper.specs.Refusals.{unless}
use Rattle.keeper.specs.Effects.{answer, settled, open_fault, publish_fault, close_fault, step_fault}
use Rattle.announcement_theory.specs.declared.position.Label.{Label}
use Rattle.announcement_theory.specs.State.{State, position_at}
use Rattle.announcement_theory.specs.Next as next
use Rattle.announcement_theory.specs.Means.{meaning_of, label_of}

abbrev pub opens : State → ℕ → State
opens s p = settled (open_fault (meaning_of s) p) s (next.opens s p)

abbrev pub open_answer : State → ℕ → Result (Unit {0}) Fault
open_answer s p = answer (open_fault (meaning_of s) p) tt

abbrev pub publishes : State → ℕ → ℕ → State
publishes s p r = settled (publish_fault (meaning_of s) p) s (next.publishes s p r)

abbrev pub publish_answer : State → ℕ → Result (Unit {0}) Fault
publish_answer s p = answer (publish_fault (meaning_of s) p) tt

abbrev pub closes : State → ℕ → State
closes s p = settled (close_fault (meaning_of s) p) s (next.closes s p)

abbrev pub close_answer : State → ℕ → Result (Unit {0}) Fault
close_answer s p = answer (close_fault (meaning_of s) p) tt

abbrev pub steps : State → ℕ → State
steps s p = settled (step_fault (meaning_of s) p) s (next.step s p).after

abbrev pub step_answer : State → ℕ → Result Outcome Fault
step_answer s p = answer (step_fault (meaning_of s) p) (next.step s p).outcome

-- the label at which a program stands: none when it is idle, open or offered
abbrev pub label_answer : State → ℕ → Result (Option Label) Fault
label_answer s p = answer (unless (nat_lt p s.programs) NoProgram None) (label_of (position_at s p))
