use Rattle.std.proofs.Common.{◌≡◌, ◌<◌, ◌*◌, ℕ, length, false}
use Rattle.pg_types.specs.Inside.Bits.{has_bit}
use Rattle.pg_dots.proofs.bits.has_clear_part.Given as goal

abbrev pub invariant-numbers : goal.invariant-numbers
invariant-numbers l = (j : ℕ) → j < 64 * l.x → has_bit l.row j ≡ false → has_bit l.whole j ≡ false
