use Rattle.pg_top.proofs.theorems.CommandLaws.{sweep_exact}
use Rattle.pg_top.proofs.laws.sweep_exact.Goals as goal

pub returns : goal.returns
returns c = sweep_exact
