use Rattle.std.proofs.Common.{◌≡◌, ℕ, ◌+◌, ◌-◌, ◌^◌, ◌<◌, ◌≤◌, nat_eq, not, false}
use Rattle.std.specs.Int.{bit_at}
use Rattle.pg_cells.specs.Inside.store.BitSets.{has_index}
use Rattle.pg_cells.proofs.store.bit_set.BitSet.first_absent.Given as goal

abbrev pub invariant-loop-has : goal.invariant-loop-has
invariant-loop-has l = record {
  small : l.has < 2 ^ 64;
  from : l.index ≤ l.at;
  upto : l.at ≤ l.bound;
  before : (k : ℕ) → l.index ≤ k → k < l.at → not (has_index l.self k) ≡ false;
  bits : (j : ℕ) → j < 64 → nat_eq (bit_at l.has j) 0 ≡ not (has_index l.self (l.at + j));
}

abbrev pub decreases-loop-has : goal.decreases-loop-has
decreases-loop-has l = l.bound + 64 - l.at
