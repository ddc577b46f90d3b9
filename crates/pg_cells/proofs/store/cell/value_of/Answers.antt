use Rattle.pg_cells.proofs.CellWrites.{value_is}
use Rattle.pg_cells.proofs.WordLaws.{next_small, first_small}
use Rattle.pg_cells.proofs.store.cell.value_of.Goals as goal

pub returns-clause-value : goal.returns-clause-value
returns-clause-value g c = value_is c.args.cells.now c.args.cell c.index-cells-cell.result c.index-cells-cell.result c.index-cells-cell.is c.requires.cell c.requires.taken

pub returns-clause-fits : goal.returns-clause-fits
returns-clause-fits g c = (next_small c.index-cells-cell.result.signs, first_small c.index-cells-cell.result.signs c.index-cells-cell.result.links)
