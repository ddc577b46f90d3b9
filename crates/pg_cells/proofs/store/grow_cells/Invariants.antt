use Rattle.std.proofs.Common.{◌<◌, ◌≤◌, ◌-◌, length}
use Rattle.pg_cells.specs.declared.store.cell.TheConstants.{CELLS_END}
use Rattle.pg_cells.specs.Inside.store.CellRows.{row_of}
use Rattle.pg_cells.specs.Inside.store.Store.{Extends}
use Rattle.pg_cells.proofs.store.grow_cells.Given as goal

abbrev pub invariant-grow : goal.invariant-grow
invariant-grow g l = record {
  small : length l.cells.items < CELLS_END;
  extends : Extends (row_of l.initial.cells.items) (row_of l.cells.items);
  within : length l.initial.cells.items ≤ l.count → length l.cells.items ≤ l.count;
}

abbrev pub decreases-grow : goal.decreases-grow
decreases-grow g l = l.count - length l.cells.items
