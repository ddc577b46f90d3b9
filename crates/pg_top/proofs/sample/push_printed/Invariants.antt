use Rattle.std.proofs.Common.{◌≡◌, ◌++◌, length}
use Rattle.pg_top.specs.Inside.Sampled.{printed_part}
use Rattle.pg_top.proofs.sample.push_printed.Given as goal

abbrev pub invariant-lines : goal.invariant-lines
invariant-lines l = l.lines.items ++ printed_part l.rest ≡ l.fn.lines.items ++ printed_part l.report

abbrev pub decreases-lines : goal.decreases-lines
decreases-lines l = length l.rest
