use Rattle.std.proofs.Common.{◌≡◌, ◌++◌, drop}
use Rattle.pg_prune.specs.Inside.Findings.{keep_lines}
use Rattle.pg_prune.proofs.report.prune_text.Given as goal

abbrev pub invariant-entries : goal.invariant-entries
invariant-entries l = l.text.items ++ keep_lines l.table (drop l.i l.patterns) (drop l.i l.needs) ≡ keep_lines l.table l.patterns l.needs
