use Rattle.std.proofs.Common.{◌≡◌, replicate}
use Rattle.pg_visible.proofs.line.Line.caret.Given as goal

abbrev pub invariant-columns : goal.invariant-columns
invariant-columns l = l.line ≡ replicate l.column 32
