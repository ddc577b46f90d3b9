use Rattle.pg_plans.proofs.Kept.{kept_unless_done}
use Rattle.pg_plans.proofs.laws.kept_unless_done.Goals as goal

pub returns : goal.returns
returns c = kept_unless_done
