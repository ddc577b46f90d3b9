use Rattle.std.proofs.Common.{refl}
use Rattle.pg_outside.proofs.Causes.{passed_on}
use Rattle.pg_outside.proofs.Results.{on_err, no_value}
use Rattle.pg_outside.proofs.disk.files.replace_kept.Goals as goal

pub returns-in_err-id : goal.returns-in_err-id
returns-in_err-id g c = record {
  ok = no_value _ c.from_residual.result c.from_residual.ensures.0;
  err = on_err c.from_residual.result (refl, c.in_err-id.ensures.err);
  cause = passed_on c.from_residual.result _ _ _ _ _ _ _ c.from_residual.ensures.1 c.in_err-id.ensures.cause;
}

pub returns : goal.returns
returns g c = record {
  ok = (c.in_ok-id.ensures.ok.0, c.in_ok-id.id, c.keep_new.ensures, c.in_ok-id.ensures.ok.1);
  err = tt;
  cause = tt;
}
