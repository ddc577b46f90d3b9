-- Sums with nothing.
use Rattle.std.proofs.Common.{◌≡◌, ℕ, ◌+◌, arith}

pub zero_plus : (n : ℕ) → 0 + n ≡ n
zero_plus n = omega arith

pub plus_zero : (n : ℕ) → n + 0 ≡ n
plus_zero n = omega arith
