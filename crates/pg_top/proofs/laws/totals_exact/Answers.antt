use Rattle.pg_top.proofs.theorems.CommandLaws.{totals_exact}
use Rattle.pg_top.proofs.laws.totals_exact.Goals as goal

pub returns : goal.returns
returns c = totals_exact
