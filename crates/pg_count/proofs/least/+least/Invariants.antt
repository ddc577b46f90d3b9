use Rattle.std.proofs.Common.{◌≡◌, ℕ, ◌+◌, ◌-◌, ◌*◌, ◌<◌, ◌≤◌, ◌⊎◌, cond, nat_eq, true, List, Some, length}
use Rattle.pg_types.specs.Placement.{base_of}
use Rattle.pg_cells.specs.Inside.linked.Members.{goes_on}
use Rattle.pg_count.specs.Inside.Floors.{first_sign}
use Rattle.pg_count.specs.Inside.Least.{NoneAt}
use Rattle.pg_count.proofs.least.+least.Given as goal

abbrev pub decreases-least : goal.decreases-least
decreases-least l = 2 * length l.path.now + 1

abbrev pub decreases-least_at : goal.decreases-least_at
decreases-least_at l = 2 * length l.path.now

abbrev pub invariant-least-loop-s : goal.invariant-least-loop-s
invariant-least-loop-s l = record {
  small : l.s < 65536;
  from : 0 < l.s → first_sign l.floor ≤ l.s;
  there : (p : List ℕ) → base_of l.cells.families p ≡ Some l.base → 0 < l.s → goes_on l.cells.values p l.s ≡ true;
  none : (p : List ℕ) → base_of l.cells.families p ≡ Some l.base → (x : ℕ) → (l.s ≡ 0) ⊎ (x < l.s) → NoneAt l.cells.values p l.floor (length l.path) x;
}

abbrev pub decreases-least-loop-s : goal.decreases-least-loop-s
decreases-least-loop-s l = cond (nat_eq l.s 0) 0 (65536 - l.s)
