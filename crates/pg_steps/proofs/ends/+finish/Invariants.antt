use Rattle.std.proofs.Common.{length}
use Rattle.pg_steps.proofs.ends.+finish.Given as goal

abbrev pub decreases-finish : goal.decreases-finish
decreases-finish g l = length l.outputs.now
