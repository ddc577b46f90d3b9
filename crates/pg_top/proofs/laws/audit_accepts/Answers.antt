use Rattle.pg_top.proofs.theorems.RunLaws.{audit_accepts}
use Rattle.pg_top.proofs.laws.audit_accepts.Goals as goal

pub returns : goal.returns
returns c = audit_accepts
