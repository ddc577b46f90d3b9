use Rattle.std.proofs.Common.{rules}
use Rattle.pg_patterns.proofs.reader.column_of.Goals as goal

pub returns : goal.returns
returns c = search rules
