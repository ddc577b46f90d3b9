use Rattle.std.proofs.Common.{◌≡◌, ℕ, ◌+◌, ◌<◌, length}
use Rattle.pg_types.specs.Inside.Bits.{has_bit}
use Rattle.pg_dots.specs.Inside.Walks.{IsAhead}
use Rattle.pg_dots.proofs.walk.Walk.on_open_number.Given as goal

abbrev pub invariant-numbers : goal.invariant-numbers
invariant-numbers l = record {
  next : l.walk.at + 1 ≡ l.at;
  none : l.walk.ahead ≡ 0;
  within : l.walk.at < length l.row;
  ahead : (from : ℕ) → IsAhead (has_bit l.row) l.fn.self from → IsAhead (has_bit l.row) l.walk from;
}
