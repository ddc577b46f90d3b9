use Rattle.std.proofs.Common.{◌≡◌, ℕ, ◌+◌, ◌-◌, ◌^◌, ◌<◌, ◌≤◌, ◌∷◌, nat_eq, false}
use Rattle.std.specs.Int.{bit_at}
use Rattle.pg_cells.specs.Inside.store.Fit.{slot_signs}
use Rattle.pg_cells.specs.Inside.store.SetFit.{fits_sets}
use Rattle.pg_cells.proofs.store.blocks.find_in_blocks.Given as goal

abbrev pub invariant-loop-blocked : goal.invariant-loop-blocked
invariant-loop-blocked g l = record {
  small : l.blocked < 2 ^ 64;
  from : l.low ≤ l.base;
  upto : l.base ≤ l.room;
  before : (k : ℕ) → l.low ≤ k → k < l.base → fits_sets l.taken.cells l.bases (l.sign ∷ slot_signs l.slots) k ≡ false;
  bits : (j : ℕ) → j < 64 → nat_eq (bit_at l.blocked j) 0 ≡ fits_sets l.taken.cells l.bases (l.sign ∷ slot_signs l.slots) (l.base + j);
}

abbrev pub decreases-loop-blocked : goal.decreases-loop-blocked
decreases-loop-blocked g l = l.room + 64 - l.base
