use Rattle.std.proofs.Common.{rules}
use Rattle.pg_translate.proofs.head.Head.defaults.Goals as goal

pub returns-clause-left : goal.returns-clause-left
returns-clause-left c = search rules
