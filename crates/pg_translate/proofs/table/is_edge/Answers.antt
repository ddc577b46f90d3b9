use Rattle.std.proofs.Common.{rules}
use Rattle.pg_translate.proofs.table.is_edge.Goals as goal

pub returns : goal.returns
returns c = search rules
