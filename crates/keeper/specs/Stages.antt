-- What a stage says of the serials that a program uses, and which calls it allows.
use Rattle.std.specs.Prelude.{ℕ, Bool, true, false, cond, Some, None, Option, ◌==◌}
use Rattle.keeper.specs.declared.stage.Stage.{Stage}
use Rattle.keeper.specs.declared.stage.Stage.TheVariants.{Idle, Opening, Open, Offering, Offered, Closing}

-- the serial that a program has at a stage: it is bound to it, open on it, offering or offered over it
abbrev pub has : Stage → Option ℕ
has Idle = None
has (Opening since bound) = bound
has (Open s) = Some s
has (Offering r s) = Some s
has (Offered s) = Some s
has (Closing s) = None

-- the serial that a program has, or is closing
abbrev pub engaged : Stage → Option ℕ
engaged Idle = None
engaged (Opening since bound) = bound
engaged (Open s) = Some s
engaged (Offering r s) = Some s
engaged (Offered s) = Some s
engaged (Closing s) = Some s

-- 1 where the serial is s
abbrev pub named : ℕ → Option ℕ → ℕ
named s None = 0
named s (Some b) = cond (s == b) 1 0

-- 1 where a program has s, or is closing it
abbrev pub uses : ℕ → Stage → ℕ
uses s st = named s (engaged st)

-- an open is allowed
abbrev pub idle : Stage → Bool
idle Idle = true
idle (Opening since bound) = false
idle (Open s) = false
idle (Offering r s) = false
idle (Offered s) = false
idle (Closing s) = false

-- a publish is allowed
abbrev pub opened : Stage → Bool
opened Idle = false
opened (Opening since bound) = false
opened (Open s) = true
opened (Offering r s) = false
opened (Offered s) = false
opened (Closing s) = false

-- a close is allowed
abbrev pub closable : Stage → Bool
closable Idle = false
closable (Opening since bound) = false
closable (Open s) = true
closable (Offering r s) = false
closable (Offered s) = true
closable (Closing s) = false

-- a step is allowed
abbrev pub moving : Stage → Bool
moving Idle = false
moving (Opening since bound) = true
moving (Open s) = false
moving (Offering r s) = true
moving (Offered s) = false
moving (Closing s) = true

-- the serial that a publish at the stage is over, and that a close at it closes
abbrev pub serial_of : Stage → ℕ
serial_of Idle = 0
serial_of (Opening since bound) = 0
serial_of (Open s) = s
serial_of (Offering r s) = s
serial_of (Offered s) = s
serial_of (Closing s) = s
