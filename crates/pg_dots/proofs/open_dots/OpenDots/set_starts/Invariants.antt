use Rattle.std.proofs.Common.{◌≡◌, ◌<◌, ◌+◌, ℕ, length, false}
use Rattle.pg_dots.specs.Inside.Dots.{is_closed, position_count}
use Rattle.pg_dots.specs.Inside.Starts.{is_left_out, starts_room}
use Rattle.pg_dots.proofs.open_dots.OpenDots.set_starts.Given as goal

abbrev pub invariant-dots : goal.invariant-dots
invariant-dots l = record {
  room : length l.starts.bits.items ≡ length l.fn.starts.bits.items;
  free : (d i : ℕ) → d < l.dot → i < starts_room l.fn.starts → i + d < position_count l.fn.self → is_closed l.fn.self d (i + d) ≡ false → is_left_out l.starts i ≡ false;
}
