use Rattle.std.proofs.Common.{rules}
use Rattle.pg_types.proofs.parameters.is_too_long.Goals as goal

pub returns : goal.returns
returns c = search rules
