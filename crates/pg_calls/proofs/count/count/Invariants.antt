use Rattle.std.proofs.Common.{◌≡◌, ℕ, ◌*◌, ◌≤◌, List}
use Rattle.pg_types.specs.Inside.counting.Counts.{sums_of}
use Rattle.pg_calls.proofs.count.count.Given as goal

abbrev pub invariant-loop-row : goal.invariant-loop-row
invariant-loop-row l = record {
  signs : l.counts.signs ≡ l.signs;
  len : l.counts.len ≡ l.len;
  room : (u : List ℕ) → ((sums_of l.counts.counts u).0 ≤ 9 * l.row-index) × ((sums_of l.counts.counts u).1 ≤ 9 * l.row-index);
}
