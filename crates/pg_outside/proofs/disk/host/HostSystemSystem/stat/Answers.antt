use Rattle.pg_outside.proofs.Results.{if_ok}
use Rattle.pg_outside.proofs.disk.host.HostSystemSystem.stat.Goals as goal

pub returns : goal.returns
returns g c = record {
  same = tt;
  seen = if_ok _ c.count_and_keep.result (λ _. tt);
  later = c.count_and_keep.ensures.later;
  ok_failures = c.count_and_keep.ensures.ok_failures;
  failed = c.count_and_keep.ensures.failed;
}
