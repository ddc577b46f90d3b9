use borrow.Author.Rules.{scaled_Fits}
use Rattle.pg_cells.proofs.CellWrites.{write_value}
use Rattle.pg_cells.proofs.store.cell.set_value.Goals as goal

pub offset_bounds-cells-cell : goal.offset_bounds-cells-cell
offset_bounds-cells-cell g c = search scaled_Fits

pub bounds-cells-cell : goal.bounds-cells-cell
bounds-cells-cell g c = c.requires.cell

pub returns : goal.returns
returns g c =
    write_value c.args.cells.now c.args.cell c.index-cells-cell.result c.args.value c.upper_signs.result c.upper_signs.ensures c.requires.fits
    c.requires.cell c.requires.taken
