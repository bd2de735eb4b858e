-- The table of stages against calls: which call on a program is allowed at which stage.
use Rattle.std.specs.Prelude.{Bool, true, false}
use Rattle.keeper.specs.declared.stage.Stage.{Stage}
use Rattle.keeper.specs.declared.stage.Stage.TheVariants.{Idle, Opening, Open, Offering, Offered, Closing}
use Rattle.exchange_theory.specs.declared.column.Column.{Column}
use Rattle.exchange_theory.specs.declared.column.Column.TheVariants as column

-- a program that is idle may open
abbrev pub when_idle : Column → Bool
when_idle column.Open = true
when_idle c = false

-- one that is opening, offering or closing may step
abbrev pub when_moving : Column → Bool
when_moving column.Step = true
when_moving c = false

-- one that is open may publish, close, read and build
abbrev pub when_open : Column → Bool
when_open column.Publish = true
when_open column.Close = true
when_open column.Root = true
when_open column.Down = true
when_open column.Look = true
when_open column.Build = true
when_open c = false

-- one that has offered may close and read
abbrev pub when_offered : Column → Bool
when_offered column.Close = true
when_offered column.Root = true
when_offered column.Down = true
when_offered column.Look = true
when_offered c = false

abbrev pub allows : Stage → Column → Bool
allows Idle c = when_idle c
allows (Opening since bound) c = when_moving c
allows (Open s) c = when_open c
allows (Offering r s) c = when_moving c
allows (Offered s) c = when_offered c
allows (Closing s) c = when_moving c
