use Rattle.std.proofs.Common.{◌≡◌, ℕ, ◌<◌, ◌^◌, nat_lt, cond, get_or, length, bit_or, w64}
use Rattle.std.specs.Int.{bit_not}
use Rattle.pg_dots.proofs.bits.turn_others.Given as goal

abbrev pub invariant-numbers : goal.invariant-numbers
invariant-numbers l = record {
  small : (y : ℕ) → y < length l.fn.row → get_or l.fn.row y 0 < 2 ^ 64;
  turned : (y : ℕ) → y < length l.fn.row → get_or l.row y 0 ≡ cond (nat_lt y l.x) (bit_or (bit_not w64 (get_or l.fn.row y 0)) (get_or l.kept y 0)) (get_or l.fn.row y 0);
}
