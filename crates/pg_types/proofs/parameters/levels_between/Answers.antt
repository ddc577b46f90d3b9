use Rattle.std.proofs.Common.{rules}
use Rattle.pg_types.proofs.parameters.levels_between.Goals as goal

pub returns : goal.returns
returns c = search rules
