use Rattle.std.proofs.Common.{◌≤◌, length}
use Rattle.pg_starts.specs.Inside.Starts.{has_window, window_order}
use Rattle.pg_starts.specs.Inside.Orders.{AreNumbers}
use Rattle.pg_starts.proofs.steps.number_to.Given as goal

abbrev pub invariant-lengths : goal.invariant-lengths
invariant-lengths l = record {
  numbers : AreNumbers (window_order l.signs l.at) (has_window l.signs l.starts l.len) l.numbers l.firsts.items;
  few : length l.firsts.items ≤ length l.signs;
}
