use Rattle.std.proofs.Common.{rules}
use Rattle.pg_types.proofs.cursor.CursorOrd.cmp.Goals as goal

pub returns : goal.returns
returns c = search rules
