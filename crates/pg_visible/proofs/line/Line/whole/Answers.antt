use Rattle.std.proofs.Common.{rules}
use Rattle.pg_visible.proofs.line.Line.whole.Goals as goal

pub returns : goal.returns
returns c = record { value = search rules; printable = search rules }
