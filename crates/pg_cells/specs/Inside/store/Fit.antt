-- Whether signs may stand at a base, by the row of cells.
use Rattle.std.specs.Prelude.{◌≡◌, ℕ, ◌+◌, ◌<◌, Bool, true, not, ◌&&◌, nat_eq, List, ◌∷◌, length, map, slice_index, Option}
use Rattle.std.specs.List.{list_all, find}
use Rattle.pg_cells.specs.declared.store.fit.Slot.{Slot}
use Rattle.pg_cells.specs.Inside.store.CellRows.{Row, sign_at, base_at}

-- the signs of slots, in their order
abbrev pub slot_signs : {V : Type 0} → List (Slot V) → List ℕ
slot_signs slots = map (λ s. s.sign) slots

-- the slot of a sign
abbrev pub slot_of : {V : Type 0} → List (Slot V) → ℕ → Option (Slot V)
slot_of slots x = find (λ k. nat_eq k.sign x) slots

-- whether signs may stand at base b: no family has it, and none of their cells is taken
abbrev pub fits_row : {V : Type 0} → Row V → List ℕ → ℕ → Bool
fits_row r signs b = not (base_at r b) && list_all (λ s. nat_eq (sign_at r (b + s)) 0) signs

-- the sign and those of the slots may stand at the base, and the row has their cells
pub record HasSpace {V : Type 0} (r : Row V) (slots : List (Slot V)) (sign base : ℕ) : Type 0 where
  pub positive : 0 < sign
  pub within : base + sign < length r.signs
  pub wide : (k : ℕ) → k < length slots → base + slice_index (slot_signs slots) k < length r.signs
  pub fits : fits_row r (sign ∷ slot_signs slots) base ≡ true
