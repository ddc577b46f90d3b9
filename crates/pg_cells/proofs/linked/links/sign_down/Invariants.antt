use Rattle.std.proofs.Common.{◌≡◌, ℕ, ◌<◌, ◌≤◌, false, cond, nat_eq, List, None, Some}
use Rattle.pg_types.specs.Placement.{base_of}
use Rattle.pg_cells.specs.Inside.linked.Members.{goes_on}
use Rattle.pg_cells.proofs.linked.links.sign_down.Given as goal

abbrev pub invariant-down : goal.invariant-down
invariant-down g l = record {
  from : l.low ≤ l.sign;
  to : l.sign ≤ l.high;
  free : (q : List ℕ) → base_of l.cells.families q ≡ cond (nat_eq l.base 0) None (Some l.base) → (z : ℕ) → l.sign < z → z ≤ l.high → goes_on l.cells.values q z ≡ false;
}

abbrev pub decreases-down : goal.decreases-down
decreases-down g l = l.sign
