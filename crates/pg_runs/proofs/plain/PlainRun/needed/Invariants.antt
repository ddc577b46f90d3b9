use Rattle.std.proofs.Common.{◌≤◌}
use Rattle.pg_runs.proofs.plain.PlainRun.needed.Given as goal

abbrev pub invariant-passes : goal.invariant-passes
invariant-passes l = l.needed ≤ l.i
