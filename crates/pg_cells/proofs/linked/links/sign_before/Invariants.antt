use Rattle.std.proofs.Common.{◌≡◌, ℕ, ◌-◌, ◌<◌, ◌⊎◌, true, false, List, Some}
use Rattle.pg_types.specs.Inside.Placing.{cell_of}
use Rattle.pg_cells.specs.Inside.linked.Members.{IsNextSign, goes_on}
use Rattle.pg_cells.proofs.linked.links.sign_before.Given as goal

abbrev pub invariant-loop-next : goal.invariant-loop-next
invariant-loop-next g l = record {
  less : l.before < l.s;
  under : l.below < l.s;
  next : (q : List ℕ) → cell_of l.cells.families q ≡ Some l.parent → (IsNextSign l.cells.values q l.before l.next) × ((l.before ≡ 0) ⊎ (goes_on l.cells.values q l.before ≡ true));
  free : (q : List ℕ) → cell_of l.cells.families q ≡ Some l.parent → (z : ℕ) → l.below < z → z < l.s → goes_on l.cells.values q z ≡ false;
}

abbrev pub decreases-loop-next : goal.decreases-loop-next
decreases-loop-next g l = l.s - l.before
