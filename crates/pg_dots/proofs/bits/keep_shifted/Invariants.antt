use Rattle.std.proofs.Common.{◌≡◌, ◌<◌, ◌*◌, ◌+◌, ℕ, length, false}
use Rattle.pg_types.specs.Inside.Bits.{has_bit}
use Rattle.pg_dots.proofs.bits.keep_shifted.Given as goal

abbrev pub invariant-numbers : goal.invariant-numbers
invariant-numbers l = record {
  old : (j : ℕ) → has_bit l.fn.row j ≡ false → has_bit l.row j ≡ false;
  other : (j : ℕ) → j < 64 * l.x → has_bit l.other (j + l.by) ≡ false → has_bit l.row j ≡ false;
}
