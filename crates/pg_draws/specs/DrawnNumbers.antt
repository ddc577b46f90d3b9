-- Numbers that are drawn, each from the one before: a linear congruential generator modulo 2^31, of
-- which the higher bits are used.
use Rattle.std.specs.Prelude.{ℕ, ◌+◌, ◌*◌, ◌/◌, ◌%◌, ◌^◌}

-- a number below m that is drawn from a state, and the state behind it
abbrev pub drawn : ℕ → ℕ → ℕ × ℕ
drawn m x = let y = (1103515245 * x + 12345) % 2 ^ 31 in (y / 65536 % m, y)
