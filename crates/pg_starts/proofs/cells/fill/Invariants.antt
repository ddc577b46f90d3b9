use Rattle.std.proofs.Common.{◌≡◌, ◌≢◌, ◌<◌, ◌≤◌, ℕ, get_or}
use Rattle.pg_starts.specs.Inside.Cells.{cell_of}
use Rattle.pg_starts.proofs.cells.fill.Given as goal

abbrev pub invariant-loop-k : goal.invariant-loop-k
invariant-loop-k l = record {
  placed : (j : ℕ) → l.from ≤ j → j < l.k → get_or l.cells (cell_of l.base (get_or l.keys j 0)) 0 ≡ j;
  kept : (c : ℕ) → ((j : ℕ) → l.from ≤ j → j < l.k → c ≢ cell_of l.base (get_or l.keys j 0)) → get_or l.cells c 0 ≡ get_or l.initial.cells c 0;
}
