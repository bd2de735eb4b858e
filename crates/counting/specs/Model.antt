-- The state of a counting keeper, and its making.
use Rattle.std.specs.Prelude.{◌≡◌, ℕ, true, false, Ok, Err, Result}
use Rattle.keeper.specs.declared.fault.Fault.{Fault}
use Rattle.keeper.specs.declared.fault.Refusal.TheVariants.{Limits}
use Rattle.keeper.specs.Refusals.{fault, limits}
use Rattle.counting.specs.declared.state.Counting.{Counting}
use Rattle.counting.specs.State.{State, view}
use Rattle.counting.specs.Moves.{fresh}

abbrev pub state_of : Counting → State
state_of k = view k.programs k.last k.current k.rows k.stages

-- a making: within the limits a keeper as new, else refused 4
abbrev pub Made : ℕ → ℕ → Result Counting Fault → Type 0
Made p l (Ok k) = (limits p l ≡ true) × (state_of k ≡ fresh p l)
Made p l (Err f) = (limits p l ≡ false) × (f ≡ fault Limits)
