use Rattle.std.proofs.Common.{rules}
use Rattle.pg_patterns.proofs.draft.LineDraft.set_digit.Goals as goal

pub returns : goal.returns
returns c = search rules
