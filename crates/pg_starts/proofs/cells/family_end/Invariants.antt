use Rattle.std.proofs.Common.{◌≡◌, ◌<◌, ◌≤◌, ℕ, get_or}
use Rattle.pg_starts.specs.Inside.Cells.{number_of}
use Rattle.pg_starts.proofs.cells.family_end.Given as goal

abbrev pub invariant-loop-k : goal.invariant-loop-k
invariant-loop-k l = record {
  number : l.number ≡ number_of (get_or l.keys l.from 0);
  same : (j : ℕ) → l.from ≤ j → j < l.k → number_of (get_or l.keys j 0) ≡ number_of (get_or l.keys l.from 0);
}
