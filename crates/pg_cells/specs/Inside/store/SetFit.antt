-- Whether signs may stand at a base, by the sets of the taken cells and of the bases.
use Rattle.std.specs.Prelude.{◌≡◌, ℕ, ◌+◌, ◌≤◌, Bool, not, ◌&&◌, ◌==◌, List, length}
use Rattle.std.specs.List.{list_all}
use Rattle.pg_cells.specs.declared.store.bit_set.BitSet.{BitSet}
use Rattle.pg_cells.specs.Inside.store.CellRows.{Row, sign_at, base_at}
use Rattle.pg_cells.specs.Inside.store.BitSets.{has_index, room_of}

-- whether signs may stand at base b: it is no base, and none of their cells is taken
abbrev pub fits_sets : BitSet → BitSet → List ℕ → ℕ → Bool
fits_sets taken bases signs b =
    not (has_index bases b) && list_all (λ s. not (has_index taken (b + s))) signs

-- the sets are those of the taken cells and of the bases of a row, and have room for its cells
pub record AreRowSets {V : Type 0} (r : Row V) (taken_set base_set : BitSet) : Type 0 where
  pub cell_room : length r.signs ≤ room_of taken_set
  pub base_room : length r.signs ≤ room_of base_set
  pub cells : (i : ℕ) → has_index taken_set i ≡ not (sign_at r i == 0)
  pub bases : (i : ℕ) → has_index base_set i ≡ base_at r i
