use Rattle.std.proofs.Common.{rules}
use Rattle.pg_dict.proofs.store.position.Position.with_mark.Goals as goal

pub returns-clause-mark : goal.returns-clause-mark
returns-clause-mark c = search rules
