use Rattle.std.proofs.Common.{rules}
use Rattle.pg_translate.proofs.head.mark_fails.Goals as goal

pub returns-else-mark-eq123 : goal.returns-else-mark-eq123
returns-else-mark-eq123 c = search rules
