use Rattle.std.proofs.Common.{rules}
use Rattle.pg_driver.proofs.level.dots.dot_at.Goals as goal

pub returns-then-len-k-eq0-clause-dot : goal.returns-then-len-k-eq0-clause-dot
returns-then-len-k-eq0-clause-dot c = search rules

pub returns-else-len-k-eq0-clause-dot : goal.returns-else-len-k-eq0-clause-dot
returns-else-len-k-eq0-clause-dot c = search rules
