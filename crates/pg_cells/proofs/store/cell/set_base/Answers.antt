use borrow.Author.Rules.{scaled_Fits}
use Rattle.pg_cells.proofs.CellWrites.{write_base}
use Rattle.pg_cells.proofs.store.cell.set_base.Goals as goal

pub offset_bounds-cells-cell : goal.offset_bounds-cells-cell
offset_bounds-cells-cell g c = search scaled_Fits

pub bounds-cells-cell : goal.bounds-cells-cell
bounds-cells-cell g c = c.requires

pub returns : goal.returns
returns g c =
    write_base c.args.cells.now c.args.cell c.index-cells-cell.result c.args.is_base c.links_with_base-held.result
    c.links_with_base-held.ensures.base c.links_with_base-held.ensures.link c.links_with_base-held.ensures.first
