use Rattle.std.proofs.Common.{rules}
use Rattle.pg_types.proofs.refusals.Kind.number.Goals as goal

pub returns-in-BadWeight : goal.returns-in-BadWeight
returns-in-BadWeight c = search rules
