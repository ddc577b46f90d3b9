use Rattle.std.proofs.Common.{refl}
use Rattle.pg_outside.proofs.Results.{if_ok, on_err}
use Rattle.pg_outside.proofs.disk.host.HostSystemSystem.set_mode.Goals as goal

pub returns : goal.returns
returns g c = record {
  file = refl;
  ok = if_ok _ c.count_and_keep.result (λ _. tt);
  err = on_err c.count_and_keep.result tt;
  later = c.count_and_keep.ensures.later;
  ok_failures = c.count_and_keep.ensures.ok_failures;
  failed = c.count_and_keep.ensures.failed;
}
