use Rattle.pg_cells.proofs.CellWrites.{cell_taken, cell_free}
use Rattle.pg_cells.proofs.store.cell.is_taken.Goals as goal

pub returns : goal.returns
returns g c = record {
  taken = λ e. cell_taken c.args.cells.now c.args.cell c.index-cells-cell.result c.requires e;
  free = λ e. cell_free c.args.cells.now c.args.cell c.index-cells-cell.result c.requires e;
}
