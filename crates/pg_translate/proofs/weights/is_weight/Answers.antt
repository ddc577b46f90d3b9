use Rattle.std.proofs.Common.{rules}
use Rattle.pg_translate.proofs.weights.is_weight.Goals as goal

pub returns : goal.returns
returns c = search rules
