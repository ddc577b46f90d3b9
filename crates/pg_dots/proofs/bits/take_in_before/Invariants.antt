use Rattle.std.proofs.Common.{◌≡◌, ℕ, ◌-◌, ◌<◌, nat_le, cond, get_or, length, bit_or}
use Rattle.pg_dots.proofs.bits.take_in_before.Given as goal

abbrev pub invariant-numbers : goal.invariant-numbers
invariant-numbers l =
    (y : ℕ) → y < length l.fn.row → get_or l.row y 0 ≡ cond (nat_le (length l.fn.row - l.k) y) (bit_or (get_or l.fn.row y 0) (get_or l.fn.row (y - l.width) 0)) (get_or l.fn.row y 0)
