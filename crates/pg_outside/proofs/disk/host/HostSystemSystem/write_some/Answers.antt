use Rattle.std.proofs.Common.{refl, arith}
use Rattle.pg_outside.proofs.Causes.{rose_one}
use Rattle.pg_outside.proofs.Results.{on_err, not_ok}
use Rattle.pg_outside.proofs.disk.host.HostSystemSystem.write_some.Goals as goal

pub returns-in-Ok-eq0 : goal.returns-in-Ok-eq0
returns-in-Ok-eq0 g c = record {
  file = refl;
  bound = omega arith;
  ok = tt;
  err = tt;
  later = c.count_failure.ensures.later;
  none = λ _. rose_one _ _ c.count_failure.ensures.rose;
  ok_failures = λ some. absurd (omega arith);
  failed = tt;
}

pub returns-in-Ok : goal.returns-in-Ok
returns-in-Ok g c = record {
  file = refl;
  bound = c.in-Ok.ensures.bound;
  ok = tt;
  err = tt;
  later = omega arith;
  none = λ zero. absurd (omega arith);
  ok_failures = λ _. refl;
  failed = tt;
}

pub returns-in-Err : goal.returns-in-Err
returns-in-Err g c = record {
  file = refl;
  bound = not_ok _ _ _ c.count.ensures.same;
  ok = not_ok _ _ _ c.count.ensures.same;
  err = on_err c.count.result tt;
  later = c.count.ensures.later;
  none = not_ok _ _ _ c.count.ensures.same;
  ok_failures = not_ok _ _ _ c.count.ensures.same;
  failed = c.count.ensures.failed;
}
