use Rattle.pg_top.proofs.theorems.RunLaws.{audit_exact}
use Rattle.pg_top.proofs.laws.audit_exact.Goals as goal

pub returns : goal.returns
returns c = audit_exact
