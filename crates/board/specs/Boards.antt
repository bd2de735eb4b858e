-- The state that a board holds.
use Rattle.announcement_theory.specs.State.{State, view}
use Rattle.board.specs.declared.board.Board.{Board}

abbrev pub state_of : Board → State
state_of b = view b.programs b.last b.current b.slots b.seats
