use Rattle.std.proofs.Common.{rules}
use Rattle.pg_plain.proofs.walk.raise_by_entry.Goals as goal

pub returns-clause-values : goal.returns-clause-values
returns-clause-values g c = search rules

pub returns-clause-covers : goal.returns-clause-covers
returns-clause-covers g c = search rules
