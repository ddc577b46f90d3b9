use Rattle.std.proofs.Common.{rules}
use Rattle.pg_translate.proofs.table.Table.reach.Goals as goal

pub returns-then-left-right-clause-value : goal.returns-then-left-right-clause-value
returns-then-left-right-clause-value c = search rules

pub returns-then-left-right-clause-between : goal.returns-then-left-right-clause-between
returns-then-left-right-clause-between c = search rules
