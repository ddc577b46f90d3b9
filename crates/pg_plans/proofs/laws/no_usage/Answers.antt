use Rattle.pg_plans.proofs.Kept.{no_usage}
use Rattle.pg_plans.proofs.laws.no_usage.Goals as goal

pub returns : goal.returns
returns c = no_usage
