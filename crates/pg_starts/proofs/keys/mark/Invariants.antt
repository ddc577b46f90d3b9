use Rattle.std.proofs.Common.{◌-◌}
use Rattle.pg_starts.specs.Inside.Starts.{has_window, part_behind}
use Rattle.pg_starts.proofs.SetLaws.{SetsBelow}
use Rattle.pg_starts.proofs.Tests.{IsWalkAt}
use Rattle.pg_starts.proofs.keys.mark.Given as goal

abbrev pub invariant-starts : goal.invariant-starts
invariant-starts l = record {
  sets : SetsBelow (has_window l.signs l.starts l.len) (part_behind l.signs l.at l.part) l.numbers l.next l.sets;
  walk : IsWalkAt l.starts l.walk l.next;
}

abbrev pub decreases-starts : goal.decreases-starts
decreases-starts l = l.end - l.next
