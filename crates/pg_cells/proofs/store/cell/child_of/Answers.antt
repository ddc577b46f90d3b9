use Rattle.pg_cells.proofs.CellWrites.{child_is}
use Rattle.pg_cells.proofs.store.cell.child_of.Goals as goal

pub returns : goal.returns
returns g c = child_is c.args.cells.now c.args.cell c.index-cells-cell.result c.requires.cell c.requires.taken
