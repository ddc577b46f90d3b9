use Rattle.std.proofs.Common.{refl, rules}
use Rattle.pg_outside.proofs.Results.{if_ok}
use Rattle.pg_outside.proofs.disk.host.HostSystemSystem.read_some.Goals as goal

pub returns : goal.returns
returns g c = record {
  same = tt;
  file = refl;
  bound = search rules;
  bytes = if_ok _ c.count_and_keep.result (λ _. tt);
  later = c.count_and_keep.ensures.later;
  ok_failures = c.count_and_keep.ensures.ok_failures;
  failed = c.count_and_keep.ensures.failed;
}
