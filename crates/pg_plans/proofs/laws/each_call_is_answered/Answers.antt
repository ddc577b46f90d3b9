use Rattle.pg_plans.proofs.Answered.{answered}
use Rattle.pg_plans.proofs.laws.each_call_is_answered.Goals as goal

pub returns : goal.returns
returns c = answered
