use Rattle.std.proofs.Common.{true, false, ◌≡◌}
use Rattle.pg_cells.proofs.RowCells.{sign_past}
use Rattle.pg_cells.proofs.store.fit.is_taken_there.Goals as goal

pub returns-then-cell-cells : goal.returns-then-cell-cells
returns-then-cell-cells g c = c.is_taken.ensures

pub returns-else-cell-cells : goal.returns-else-cell-cells
returns-else-cell-cells g c = record {
  taken = λ e. absurd (let no : false ≡ true = e in cc);
  free = λ _. sign_past c.args.cells.now c.args.cell c.if-cell-cells.false;
}
