use Rattle.pg_cells.proofs.RowCells.{row_push}
use Rattle.pg_cells.proofs.store.free_cells.push_cell.Goals as goal

pub returns-clause-row : goal.returns-clause-row
returns-clause-row g c = row_push c.args.cells.now.items c.push.new.self.items c.args.value c.in_ok-push.ensures.items
