-- Which dots are closed at which positions.
use Rattle.std.specs.Prelude.{ℕ, ◌+◌, ◌*◌, ◌<◌, nat_lt, Bool, if◌then◌else◌}
use Rattle.pg_types.specs.Inside.Bits.{has_bit}
use Rattle.pg_dots.specs.declared.open_dots.OpenDots.{OpenDots}
use Rattle.pg_dots.specs.declared.walk.Walk.{Walk}

-- how many positions there are bits for
abbrev pub position_count : OpenDots → ℕ
position_count o = 64 * o.width

-- the row of a dot: that of the dots that are not reached is the first
abbrev pub dot_row : ℕ → ℕ → ℕ
dot_row reached dot = if nat_lt dot reached then dot + 1 else 0

-- a dot is closed at a position
unfoldable pub is_closed : OpenDots → ℕ → ℕ → Bool
is_closed o dot i = has_bit o.bits.items (dot_row o.reached dot * (64 * o.width) + i)

-- a walk is at one of the numbers of a row
abbrev pub HasWalk : OpenDots → Walk → Type 0
HasWalk o w = w.at < o.width
