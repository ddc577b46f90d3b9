use Rattle.std.proofs.Common.{◌∙◌, arith}
use Rattle.std.proofs.lemmas.Result.{IfOk-from_err, on_err_weaker, on_ok_weaker}
use Rattle.pg_outside.proofs.Causes.{rose_since}
use Rattle.pg_outside.proofs.Results.{if_ok, on_err, no_value}
use Rattle.pg_outside.proofs.disk.host.HostSystemSystem.read_link.Goals as goal

pub returns-in_err-path : goal.returns-in_err-path
returns-in_err-path g c = record {
  same = tt;
  text = IfOk-from_err _ _ c.from_residual.ensures.0;
  later = c.count_and_keep.ensures.later;
  ok_failures = no_value _ c.from_residual.result c.from_residual.ensures.0;
  failed = on_err c.from_residual.result c.in_err-path.ensures.failed;
}

pub returns : goal.returns
returns g c = record {
  same = tt;
  text = if_ok _ c.count.result (λ _. tt);
  later = omega (arith, c.count_and_keep.ensures.later, c.count.ensures.later);
  ok_failures = on_ok_weaker c.count.result (λ same. same ∙ c.in_ok-path.ensures.ok_failures) c.count.ensures.ok_failures;
  failed = on_err_weaker c.count.result (λ rose. rose_since _ _ _ c.in_ok-path.ensures.ok_failures rose) c.count.ensures.failed;
}
