use Rattle.std.proofs.Common.{◌≡◌, ◌<◌, ◌≤◌, ◌-◌, ℕ, get_or, length, vec_len}
use Rattle.pg_starts.specs.Inside.Cells.{ArePacked, number_of}
use Rattle.pg_starts.proofs.cells.place.Given as goal

abbrev pub decreases-families : goal.decreases-families
decreases-families l = length l.keys - l.from

abbrev pub invariant-families : goal.invariant-families
invariant-families l = record {
  within : l.from ≤ length l.keys;
  as_count : vec_len l.bases ≡ l.count;
  bound : l.from < length l.keys → (k : ℕ) → k < l.from → number_of (get_or l.keys k 0) < number_of (get_or l.keys l.from 0);
  packed : ArePacked l.keys l.from l.bases.items l.cells.items;
}
