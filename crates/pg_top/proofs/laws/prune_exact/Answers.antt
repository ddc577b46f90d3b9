use Rattle.pg_top.proofs.theorems.CommandLaws.{prune_exact}
use Rattle.pg_top.proofs.laws.prune_exact.Goals as goal

pub returns : goal.returns
returns c = prune_exact
