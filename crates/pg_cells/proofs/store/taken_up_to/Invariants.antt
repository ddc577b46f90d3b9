use Rattle.std.proofs.Common.{◌≢◌, ℕ, ◌≤◌}
use Rattle.pg_cells.specs.Inside.store.CellRows.{row_of, sign_at}
use Rattle.pg_cells.proofs.store.taken_up_to.Given as goal

abbrev pub invariant-loop-at : goal.invariant-loop-at
invariant-loop-at g l = record { below : l.at ≤ l.cell; most : (k : ℕ) → k ≤ l.cell → sign_at (row_of l.cells) k ≢ 0 → k ≤ l.at }

abbrev pub decreases-loop-at : goal.decreases-loop-at
decreases-loop-at g l = l.at
