use Rattle.std.proofs.Common.{◌≡◌, ℕ, ◌+◌, ◌*◌, ◌<◌, nat_lt, nat_eq, ◌&&◌, ◌||◌}
use Rattle.pg_types.specs.Inside.Bits.{has_bit}
use Rattle.pg_dots.proofs.open_dots.set_in_rows.Given as goal

abbrev pub invariant-rows : goal.invariant-rows
invariant-rows l =
    (r j : ℕ) → j < 64 * l.width → has_bit l.bits (r * (64 * l.width) + j) ≡ ((nat_lt r l.row && nat_eq j l.i) || has_bit l.fn.bits (r * (64 * l.width) + j))
