use Rattle.std.proofs.Common.{rules}
use Rattle.pg_select.proofs.pass.Pass.has_within.Goals as goal

pub returns-then-dot-self : goal.returns-then-dot-self
returns-then-dot-self c = search rules

pub returns-else-dot-self : goal.returns-else-dot-self
returns-else-dot-self c = search rules
