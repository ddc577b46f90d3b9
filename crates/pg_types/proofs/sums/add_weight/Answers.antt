use Rattle.std.proofs.Common.{rules}
use Rattle.pg_types.proofs.sums.add_weight.Goals as goal

pub returns-then-good : goal.returns-then-good
returns-then-good c = search rules

pub returns-else-good : goal.returns-else-good
returns-else-good c = search rules
