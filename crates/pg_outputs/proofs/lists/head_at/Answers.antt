use Rattle.std.proofs.Common.{rules}
use Rattle.pg_outputs.proofs.lists.head_at.Goals as goal

pub returns : goal.returns
returns c = search rules
