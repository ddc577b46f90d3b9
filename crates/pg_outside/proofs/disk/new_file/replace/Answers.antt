use Rattle.std.proofs.Common.{◌∙◌, refl}
use Rattle.pg_outside.proofs.Causes.{rose_then, passed_since}
use Rattle.pg_outside.proofs.Results.{on_err}
use Rattle.pg_outside.proofs.Replacing.{replaces, gave_up, nothing_done}
use Rattle.std.proofs.lemmas.Result.{IfOk-from_err}
use Rattle.pg_outside.proofs.disk.new_file.replace.Goals as goal

pub returns-in-Ok : goal.returns-in-Ok
returns-in-Ok g c = record {
  ok = (
    c.in-Ok.ensures.ok.0 ∙ c.in_ok-new.ensures.ok_failures,
    replaces _ _ c.args.bytes.now c.args.mode _ _ _ _ _ (record { is_new = c.in_ok-new.ensures.own; apart = c.in_ok-new.ensures.apart })
        (g.met.S.System.new_names c.args.system.now) c.in_ok-new.ensures.ok c.in-Ok.ensures.ok.1,
  );
  err = tt;
  cause = tt;
}

pub returns : goal.returns
returns g c = record {
  ok = tt;
  err = gave_up c.remove.result _ _ _ c.args.bytes.now c.args.mode _ _ _ _ _ (record { is_new = c.in_ok-new.ensures.own; apart = c.in_ok-new.ensures.apart })
      (g.met.S.System.new_names c.args.system.now) c.in_ok-new.ensures.ok c.in-Err.ensures.err.1 (c.as_str.ensures.value ∙ c.place.ensures.own)
      c.remove.ensures.ok c.remove.ensures.err;
  cause = rose_then _ _ _ _ c.in_ok-new.ensures.ok_failures c.in-Err.ensures.err.0 c.remove.ensures.later;
}

pub returns-in_err-new : goal.returns-in_err-new
returns-in_err-new g c = record {
  ok = IfOk-from_err _ _ c.from_residual.ensures.0;
  err = on_err c.from_residual.result (nothing_done _ _ _ _ _ c.in_err-new.ensures.err);
  cause = passed_since c.from_residual.result _ _ _ _ _ _ _ _ _ _ _ _ c.from_residual.ensures.1 c.in_err-new.ensures.cause refl (λ b. b) (λ b. b) (λ b. b) (λ all. (c.in_err-new.ensures.err, all));
}
