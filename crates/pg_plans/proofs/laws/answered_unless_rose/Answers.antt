use Rattle.pg_plans.proofs.Answered.{answered_unless_rose}
use Rattle.pg_plans.proofs.laws.answered_unless_rose.Goals as goal

pub returns : goal.returns
returns c = answered_unless_rose
