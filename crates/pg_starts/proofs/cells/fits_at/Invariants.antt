use Rattle.std.proofs.Common.{◌<◌, ℕ, get_or}
use Rattle.pg_starts.specs.Inside.Cells.{IsFree, cell_of}
use Rattle.pg_starts.proofs.cells.fits_at.Given as goal

abbrev pub invariant-loop-key : goal.invariant-loop-key
invariant-loop-key l = (j : ℕ) → j < l.key-index → IsFree l.cells (cell_of l.base (get_or l.family j 0))
