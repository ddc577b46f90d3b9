use Rattle.std.proofs.Common.{Some, ap, sym, ◌∙◌}
use Rattle.pg_cells.proofs.linked.Cells.root_cell.Goals as goal

pub returns-clause-cell : goal.returns-clause-cell
returns-clause-cell g c = c.signs-signs.ensures.held.alone c.args.s c.requires.0 c.requires.1 ∙ ap Some (sym c.from.ensures)
