use borrow.Author.Rules.{scaled_Fits}
use Rattle.pg_cells.proofs.CellWrites.{write_free}
use Rattle.pg_cells.proofs.store.cell.set_free.Goals as goal

pub offset_bounds-cells-cell : goal.offset_bounds-cells-cell
offset_bounds-cells-cell g c = search scaled_Fits

pub bounds-cells-cell : goal.bounds-cells-cell
bounds-cells-cell g c = c.requires

pub returns : goal.returns
returns g c = write_free c.args.cells.now c.args.cell c.index-cells-cell.result
