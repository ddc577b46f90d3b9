use Rattle.std.proofs.lemmas.Result.{IfOk-from_err}
use Rattle.pg_outside.proofs.Results.{on_err, no_value}
use Rattle.pg_outside.proofs.disk.host.HostSystemSystem.look.Goals as goal

pub returns-in_err-found : goal.returns-in_err-found
returns-in_err-found g c = record {
  same = tt;
  kind = IfOk-from_err _ _ c.from_residual.ensures.0;
  later = c.count_unless_none.ensures.later;
  ok_failures = no_value _ c.from_residual.result c.from_residual.ensures.0;
  failed = on_err c.from_residual.result c.in_err-found.ensures.failed;
}

pub returns : goal.returns
returns g c = record {
  same = tt;
  kind = tt;
  later = c.count_unless_none.ensures.later;
  ok_failures = c.in_ok-found.ensures.ok_failures;
  failed = tt;
}
