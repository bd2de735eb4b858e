-- The world of an exchange and the memory lent to it.
use Rattle.std.specs.Prelude.{List}
use Rattle.keeper.specs.Meaning.{Meaning}
use Rattle.cells_theory.specs.declared.cell.Cell.{Cell}
use Rattle.exchange_theory.specs.World.{World, world}
use Rattle.exchange.specs.declared.exchange.Exchange.{Exchange}

abbrev pub world_of : {K T : Type 0} → (K → Meaning) → Exchange K → List Cell → List T → World T
world_of means x cs ls = world (means x.keeper) x.desk cs ls
