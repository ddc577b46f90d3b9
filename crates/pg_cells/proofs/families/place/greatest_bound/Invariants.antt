use Rattle.std.proofs.Common.{◌≡◌, ℕ, ◌<◌, ◌∷◌, false}
use Rattle.pg_cells.specs.Inside.store.Fit.{fits_row, slot_signs}
use Rattle.pg_cells.proofs.families.place.greatest_bound.Given as goal

abbrev pub invariant-loop-slot : goal.invariant-loop-slot
invariant-loop-slot g l = (b : ℕ) → 0 < b → b < l.bound → fits_row l.store (l.sign ∷ slot_signs l.slots) b ≡ false
