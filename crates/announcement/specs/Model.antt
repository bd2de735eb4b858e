-- The state of an announcement keeper, and its making.
use Rattle.std.specs.Prelude.{◌≡◌, ℕ, true, false, Ok, Err, Result}
use Rattle.keeper.specs.declared.fault.Fault.{Fault}
use Rattle.keeper.specs.declared.fault.Refusal.TheVariants.{Limits}
use Rattle.keeper.specs.Refusals.{fault, limits}
use Rattle.announcement_theory.specs.State.{State, fresh}
use Rattle.announcement.specs.declared.state.Announcing.{Announcing}
use Rattle.board.specs.Boards.{state_of}

abbrev pub state_in : Announcing → State
state_in k = state_of k.board

-- a making: within the limits a keeper as new, else refused 4
abbrev pub Made : ℕ → ℕ → Result Announcing Fault → Type 0
Made p l (Ok k) = (limits p l ≡ true) × (state_in k ≡ fresh p l)
Made p l (Err f) = (limits p l ≡ false) × (f ≡ fault Limits)
