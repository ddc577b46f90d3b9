use Rattle.std.proofs.Common.{rules}
use Rattle.pg_table.proofs.view.walks.raise.Goals as goal

pub returns-then-dot-len-clause-values : goal.returns-then-dot-len-clause-values
returns-then-dot-len-clause-values c = search rules
