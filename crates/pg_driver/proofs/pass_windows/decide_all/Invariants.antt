use Rattle.std.proofs.Common.{◌≡◌, ℕ, ◌<◌, ◌++◌, List, length, drop, slice_get, Some}
use Rattle.pg_types.specs.Inside.counting.Counts.{counted_sums}
use Rattle.pg_types.specs.Inside.counting.NumberedWindows.{HasNumber}
use Rattle.pg_starts.specs.Inside.Tallies.{tallied}
use Rattle.pg_starts.specs.Inside.CountsByNumber.{counted_from}
use Rattle.pg_starts.specs.Inside.StartCountings.{counts_in, windows_in}
use Rattle.pg_driver.specs.Inside.level.PassWindows.{fate_of_sums}
use Rattle.pg_driver.proofs.pass_windows.decide_all.Given as goal

abbrev pub invariant-numbers : goal.invariant-numbers
invariant-numbers l = record {
  order : (l.order.items ++ counted_from l.number (drop l.number (tallied l.counts.tallies))) ≡ counted_from 0 (tallied l.counts.tallies);
  size : length l.fates.items ≡ l.number;
  each : (u : List ℕ) (n : ℕ) → n < l.number → HasNumber (windows_in l.signs l.counts) u n
      → slice_get l.fates.items n ≡ Some (fate_of_sums l.params (counted_sums (counts_in l.signs l.counts) u));
}
