use Rattle.std.proofs.Common.{rules}
use Rattle.pg_visible.proofs.line.visible.Goals as goal

pub returns : goal.returns
returns c = search rules
