use Rattle.pg_outside.proofs.Results.{if_ok, on_err, match_always, none_always}
use Rattle.pg_outside.proofs.disk.host.HostSystemSystem.make.Goals as goal

pub returns : goal.returns
returns g c = record {
  ok = if_ok _ c.count_unless_none.result (λ made. match_always _ made tt (λ _. tt));
  err = on_err c.count_unless_none.result tt;
  later = c.count_unless_none.ensures.later;
  taken = if_ok _ c.count_unless_none.result (λ made. none_always made tt);
  ok_failures = c.count_unless_none.ensures.ok_failures;
  failed = c.count_unless_none.ensures.failed;
}
