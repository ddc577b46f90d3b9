use Rattle.pg_top.proofs.theorems.CommandLaws.{sample_exact}
use Rattle.pg_top.proofs.laws.sample_exact.Goals as goal

pub returns : goal.returns
returns c = sample_exact
