use Rattle.std.proofs.Common.{◌≡◌, ◌++◌, drop}
use Rattle.pg_patterns.specs.Inside.Search.{HasRank}
use Rattle.pg_patterns.specs.Texts.{pattern_line}
use Rattle.pg_patterns.specs.Inside.PatternLines.{line_from}
use Rattle.pg_patterns.proofs.text.push_line.Given as goal

abbrev pub invariant-signs : goal.invariant-signs
invariant-signs l = record {
  text : l.text.items ++ line_from l.table l.entries l.signs l.dot (drop l.dot l.signs) ≡ l.fn.text.items ++ pattern_line l.table l.entries l.signs;
  point : HasRank l.entries (l.signs, l.dot) l.next;
}
