-- What following a field says of a sound memory.
use Rattle.cells_theory.proofs.Looking.{field_promises}
use Rattle.cells.proofs.looking.field.Goals as goal

pub returns-clause-promises : goal.returns-clause-promises
returns-clause-promises c =
    field_promises c.args.cells.now c.args.c c.args.k c.read_field.result c.read_field.ensures
