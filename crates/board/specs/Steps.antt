-- A step of the board.
use Rattle.std.specs.Prelude.{◌≡◌, ℕ, ◌<◌, Some, None, Option}
use Rattle.keeper.specs.declared.outcome.Outcome.{Outcome}
use Rattle.keeper.specs.declared.outcome.Outcome.TheVariants.{Accepted}
use Rattle.announcement_theory.specs.declared.position.Position.TheVariants.{Offered}
use Rattle.announcement_theory.specs.declared.mark.Mark.{Mark}
use Rattle.announcement_theory.specs.State.{State, mark, slot_at}
use Rattle.announcement_theory.specs.Tests.{serial_in}
use Rattle.announcement_theory.specs.Next.{Stepped, advance, go_to, step, stepped}

-- the state w and the answer o are those of the step t
abbrev pub Took : Stepped → State → Outcome → Type 0
Took t w o = (w ≡ t.after) × (o ≡ t.outcome)

-- a step of program p leads from s to w; none is taken where the current serial is the largest number
abbrev pub Steps : State → ℕ → State → Option Outcome → Type 0
Steps s p w None = (s.current.serial ≡ 4294967295) × (w ≡ s)
Steps s p w (Some o) = (s.current.serial < 4294967295) × Took (step s p) w o

-- an offer over the current version is accepted: the version in slot i becomes current
abbrev pub accepts : State → ℕ → Mark → ℕ → Stepped
accepts s p over i =
    stepped (go_to (advance s (mark (serial_in (slot_at s i)) i)) p (Offered over)) (Accepted (serial_in (slot_at s i)))
