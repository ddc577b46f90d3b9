use Rattle.std.proofs.Common.{rules}
use Rattle.pg_outputs.proofs.lists.has_at.Goals as goal

pub returns-in-Some-clause-at : goal.returns-in-Some-clause-at
returns-in-Some-clause-at c = search rules
