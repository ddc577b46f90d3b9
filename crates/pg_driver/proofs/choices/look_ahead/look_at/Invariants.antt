use Rattle.std.proofs.Common.{◌≡◌, length}
use Rattle.pg_starts.specs.Inside.StartCountings.{windows_in}
use Rattle.pg_driver.proofs.SeenCandidates.{EachSeen}
use Rattle.pg_driver.proofs.choices.look_ahead.look_at.Given as goal

abbrev pub invariant-numbers : goal.invariant-numbers
invariant-numbers l = record {
  size : length l.seen.items ≡ l.number-index;
  each : EachSeen l.fn.fates (windows_in l.signs l.counts) l.fn.numbers l.seen.items;
}
