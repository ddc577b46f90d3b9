use Rattle.pg_plans.proofs.Kept.{kept_after_unread}
use Rattle.pg_plans.proofs.laws.kept_after_unread.Goals as goal

pub returns : goal.returns
returns c = kept_after_unread
