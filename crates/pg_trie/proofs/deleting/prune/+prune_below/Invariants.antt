use Rattle.std.proofs.Common.{◌≡◌, ℕ, ◌-◌, ◌<◌, cond, nat_eq, true, List, Some}
use Rattle.pg_types.specs.Inside.Placing.{cell_of}
use Rattle.pg_cells.specs.Inside.linked.Members.{IsBefore, goes_on}
use Rattle.pg_trie.specs.Inside.PrunedFamilies.{PrunesTo}
use Rattle.pg_trie.proofs.deleting.prune.+prune_below.Given as goal

abbrev pub decreases-prune_below : goal.decreases-prune_below
decreases-prune_below l = l.more

abbrev pub invariant-loop-s : goal.invariant-loop-s
invariant-loop-s l = record {
  small : l.s < 65536;
  to : (q : List ℕ) → cell_of l.fn.cells.families q ≡ Some l.cell → PrunesTo l.fn.cells l.cells q l.s;
  goes : (q : List ℕ) → cell_of l.fn.cells.families q ≡ Some l.cell → 0 < l.s → goes_on l.cells.values q l.s ≡ true;
  before : (q : List ℕ) → cell_of l.fn.cells.families q ≡ Some l.cell → 0 < l.s → IsBefore l.cells.values q l.s l.before;
}

abbrev pub decreases-loop-s : goal.decreases-loop-s
decreases-loop-s l = cond (nat_eq l.s 0) 0 (65536 - l.s)
