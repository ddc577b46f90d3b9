use Rattle.std.proofs.Common.{rules}
use Rattle.pg_patterns.proofs.draft.LineDraft.is_full.Goals as goal

pub returns : goal.returns
returns c = search rules
