use Rattle.std.proofs.Common.{◌≡◌}
use Rattle.pg_calls.proofs.count.count_passes.Given as goal

abbrev pub invariant-loop-len : goal.invariant-loop-len
invariant-loop-len g l = l.counts.signs ≡ l.signs
