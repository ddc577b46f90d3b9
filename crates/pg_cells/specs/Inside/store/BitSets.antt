-- Sets of indices: a bit for each.
use Rattle.std.specs.Prelude.{◌≡◌, ℕ, ◌+◌, ◌*◌, ◌<◌, ◌≤◌, Bool, true, length}
use Rattle.pg_types.specs.Inside.Bits.{has_bit}
use Rattle.pg_cells.specs.declared.store.bit_set.BitSet.{BitSet}

-- how many indices there are bits for
abbrev pub room_of : BitSet → ℕ
room_of s = 64 * length s.bits.items

-- an index is in the set; none past the room is
unfoldable pub has_index : BitSet → ℕ → Bool
has_index s i = has_bit s.bits.items i

-- the second set has a number for each 64 cells, and only numbers of which the first has all cells
pub record AreFull (cells full : BitSet) : Type 0 where
  pub room : room_of cells ≤ 64 * room_of full
  pub all : (number j : ℕ) → has_index full number ≡ true → j < 64
      → has_index cells (64 * number + j) ≡ true
