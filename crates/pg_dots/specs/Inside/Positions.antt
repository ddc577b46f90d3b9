-- Sets of positions.
use Rattle.std.specs.Prelude.{ℕ, ◌*◌, Bool, length}
use Rattle.pg_types.specs.Inside.Bits.{has_bit}
use Rattle.pg_dots.specs.declared.position_set.PositionSet.{PositionSet}

-- how many positions a set has bits for
abbrev pub positions_room : PositionSet → ℕ
positions_room s = 64 * length s.bits.items

-- a position is in a set
unfoldable pub is_among : PositionSet → ℕ → Bool
is_among s i = has_bit s.bits.items i
