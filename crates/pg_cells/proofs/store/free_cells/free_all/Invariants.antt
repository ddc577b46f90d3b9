use Rattle.std.proofs.Common.{◌≡◌, length}
use Rattle.pg_cells.specs.Inside.store.CellRows.{row_of}
use Rattle.pg_cells.specs.Inside.store.Store.{AreFreeTo}
use Rattle.pg_cells.proofs.store.free_cells.free_all.Given as goal

abbrev pub invariant-loop-cell : goal.invariant-loop-cell
invariant-loop-cell g l = record { size : length l.cells ≡ length l.initial.cells; free : AreFreeTo l.cell (row_of l.cells) }
