-- Sets of signs at which windows begin.
use Rattle.std.specs.Prelude.{ℕ, ◌*◌, ◌<◌, Bool, length}
use Rattle.pg_types.specs.Inside.Bits.{has_bit}
use Rattle.pg_dots.specs.declared.start_set.StartSet.{StartSet}
use Rattle.pg_dots.specs.declared.walk.Walk.{Walk}

-- how many signs a set has bits for
abbrev pub starts_room : StartSet → ℕ
starts_room s = 64 * length s.bits.items

-- a sign is not in a set
abbrev pub is_left_out : StartSet → ℕ → Bool
is_left_out s i = has_bit s.bits.items i

-- a walk is at one of the numbers of a set
abbrev pub HasStartWalk : StartSet → Walk → Type 0
HasStartWalk s w = w.at < length s.bits.items
