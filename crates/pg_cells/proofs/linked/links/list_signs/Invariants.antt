use Rattle.std.proofs.Common.{◌≡◌, ℕ, ◌-◌, ◌<◌, List, length, get_or, Some}
use Rattle.pg_types.specs.Inside.Placing.{cell_of}
use Rattle.pg_cells.specs.declared.store.cell.TheConstants.{SIGN_COUNT}
use Rattle.pg_cells.specs.Inside.linked.Members.{IsNext, IsNextSign, goes_on, number_before}
use Rattle.pg_cells.proofs.linked.links.list_signs.Given as goal

abbrev pub invariant-loop-next : goal.invariant-loop-next
invariant-loop-next g l = record {
  each : (q : List ℕ) → cell_of l.cells.families q ≡ Some l.parent → (k : ℕ) → k < length l.signs.items
      → (0 < get_or l.signs.items k 0) × IsNext (goes_on l.cells.values q) (number_before l.signs.items k) (get_or l.signs.items k 0);
  next : (q : List ℕ) → cell_of l.cells.families q ≡ Some l.parent → IsNextSign l.cells.values q (number_before l.signs.items (length l.signs.items)) l.next;
  small : l.next < SIGN_COUNT;
}

abbrev pub decreases-loop-next : goal.decreases-loop-next
decreases-loop-next g l = SIGN_COUNT - number_before l.signs.items (length l.signs.items)
