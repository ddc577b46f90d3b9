use Rattle.std.proofs.Common.{◌≡◌, ◌≤◌, length}
use Rattle.pg_types.specs.declared.limits.TheConstants.{WEIGHT_MAX}
use Rattle.pg_dict.specs.Inside.LineWords.{line_reading}
use Rattle.pg_dict.specs.Inside.Lines.LineStarts.{rest_reading}
use Rattle.pg_dict.proofs.entries.line.Line.seek.Given as goal

abbrev pub invariant-items : goal.invariant-items
invariant-items l = record {
  whole : rest_reading l.self.table.now l.self.number l.self.size l.weight l.rest ≡ line_reading l.self.table.now l.self.number l.self.weight l.text;
  within : length l.rest ≤ l.self.size;
  small : l.weight ≤ WEIGHT_MAX;
}

abbrev pub decreases-items : goal.decreases-items
decreases-items l = length l.rest
