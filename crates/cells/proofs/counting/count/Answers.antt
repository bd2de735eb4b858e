-- What a count says of a sound memory.
use Rattle.cells_theory.specs.Memory.{memory}
use Rattle.cells_theory.proofs.Reaching.{count_promises}
use Rattle.cells.proofs.counting.count.Goals as goal

pub returns-clause-promises : goal.returns-clause-promises
returns-clause-promises c =
    λ h names s. count_promises (memory h c.args.cells.now) names s c.args.c c.read_count.result c.read_count.ensures
