use Rattle.std.proofs.Common.{rules}
use Rattle.pg_visible.proofs.excerpts.cut.Goals as goal

pub returns : goal.returns
returns c = record { before = search rules; after = search rules }
