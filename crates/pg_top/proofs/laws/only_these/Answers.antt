use Rattle.pg_top.proofs.theorems.RunLaws.{each_answer}
use Rattle.pg_top.proofs.laws.only_these.Goals as goal

pub returns : goal.returns
returns c = each_answer
