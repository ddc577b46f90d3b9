use Rattle.std.proofs.Common.{◌≡◌, ℕ, ◌-◌, ◌<◌, ◌≤◌, cond, nat_eq, true, List, Some}
use Rattle.pg_types.specs.Placement.{base_of}
use Rattle.pg_cells.specs.Inside.linked.Members.{goes_on}
use Rattle.pg_count.proofs.least.sign_from.Given as goal

abbrev pub invariant-loop-s : goal.invariant-loop-s
invariant-loop-s l = record {
  small : l.s < 65536;
  there : (p : List ℕ) → base_of l.cells.families p ≡ Some l.base → 0 < l.s → goes_on l.cells.values p l.s ≡ true;
  least : (p : List ℕ) → base_of l.cells.families p ≡ Some l.base → (z : ℕ) → l.from ≤ z → goes_on l.cells.values p z ≡ true → (0 < l.s) × (l.s ≤ z);
}

abbrev pub decreases-loop-s : goal.decreases-loop-s
decreases-loop-s l = cond (nat_eq l.s 0) 0 (65536 - l.s)
