use Rattle.std.proofs.Common.{◌≡◌, ◌+◌, ◌≤◌, length}
use Rattle.pg_audit.specs.Differences.{whole_lines, difference_from, first_false}
use Rattle.pg_audit.proofs.lines.compare.Given as goal

abbrev pub invariant-lines : goal.invariant-lines
invariant-lines l = record {
  answer : difference_from l.line (whole_lines l.rest) (whole_lines l.due) ≡ first_false l.fn.given l.fn.wanted;
  low : 1 ≤ l.line;
  room : l.line + length l.rest ≤ length l.fn.given + 1;
}

abbrev pub decreases-lines : goal.decreases-lines
decreases-lines l = length l.rest
