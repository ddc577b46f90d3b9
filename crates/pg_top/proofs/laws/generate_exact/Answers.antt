use Rattle.pg_top.proofs.theorems.RunLaws.{generate_exact}
use Rattle.pg_top.proofs.laws.generate_exact.Goals as goal

pub returns : goal.returns
returns c = generate_exact
