use Rattle.pg_outside.proofs.Results.{if_ok, match_always, some_always}
use Rattle.pg_outside.proofs.disk.host.HostSystemSystem.open_to_write.Goals as goal

pub returns : goal.returns
returns g c = record {
  same = tt;
  opened = if_ok _ c.count_unless_none.result (λ opened. match_always _ opened tt (λ _. tt));
  writable = if_ok _ c.count_unless_none.result (λ opened. some_always _ opened (λ _. tt));
  later = c.count_unless_none.ensures.later;
  ok_failures = c.count_unless_none.ensures.ok_failures;
  failed = c.count_unless_none.ensures.failed;
}
