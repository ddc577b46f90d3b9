use Rattle.std.proofs.Common.{rules}
use Rattle.pg_sweep.proofs.sets.with_cost.Goals as goal

pub returns : goal.returns
returns c = search rules
