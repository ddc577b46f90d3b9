use Rattle.pg_top.proofs.theorems.CommandLaws.{pack_exact}
use Rattle.pg_top.proofs.laws.pack_exact.Goals as goal

pub returns : goal.returns
returns c = pack_exact
