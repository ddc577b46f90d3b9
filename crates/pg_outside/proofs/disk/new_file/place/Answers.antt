use Rattle.std.proofs.Common.{◌∙◌, refl}
use Rattle.std.proofs.lemmas.Result.{IfOk-from_err}
use Rattle.pg_outside.proofs.Causes.{rose_since}
use Rattle.pg_outside.proofs.FileSteps.{filled_disturbed}
use Rattle.pg_outside.proofs.Results.{on_err}
use Rattle.pg_outside.proofs.Runs.{runs_weaker, then_keeps}
use Rattle.pg_outside.proofs.Replacing.{places}
use Rattle.pg_outside.proofs.disk.new_file.place.Goals as goal

pub returns : goal.returns
returns g c = record {
  own = refl;
  ok = (
    c.in_ok-rename.ensures.ok_failures ∙ c.in_ok-seen.ensures.ok_failures ∙ c.in_ok-fill.ensures.ok.0,
    places _ _ _ c.args.bytes.now c.args.mode _ _ _ _ _ _ _ c.in_ok-fill.ensures.ok.1 c.fill.ensures.file c.stat.ensures.same c.in_ok-seen.ensures.seen
        c.as_str.ensures.value c.in_ok-rename.ensures.ok,
  );
  err = tt;
}

pub returns-in_err-fill : goal.returns-in_err-fill
returns-in_err-fill g c = record {
  own = refl;
  ok = IfOk-from_err _ _ c.from_residual.ensures.0;
  err = on_err c.from_residual.result c.in_err-fill.ensures.err;
}

pub returns-in_err-seen : goal.returns-in_err-seen
returns-in_err-seen g c = record {
  own = refl;
  ok = IfOk-from_err _ _ c.from_residual-in_err-seen.ensures.0;
  err = on_err c.from_residual-in_err-seen.result (
    rose_since _ _ _ c.in_ok-fill.ensures.ok.0 c.in_err-seen.ensures.failed,
    then_keeps _ _ _ _ _ (runs_weaker _ _ _ _ _ _ c.in_ok-fill.ensures.ok.1 (λ x y p. p) (λ x y q. filled_disturbed _ c.args.mode c.args.bytes.now x y q)) c.stat.ensures.same,
  );
}

pub returns-in_err-rename : goal.returns-in_err-rename
returns-in_err-rename g c = record {
  own = refl;
  ok = IfOk-from_err _ _ c.from_residual-in_err-rename.ensures.0;
  err = on_err c.from_residual-in_err-rename.result (
    rose_since _ _ _ (c.in_ok-seen.ensures.ok_failures ∙ c.in_ok-fill.ensures.ok.0) c.in_err-rename.ensures.failed,
    then_keeps _ _ _ _ _ (then_keeps _ _ _ _ _ (runs_weaker _ _ _ _ _ _ c.in_ok-fill.ensures.ok.1 (λ x y p. p) (λ x y q. filled_disturbed _ c.args.mode c.args.bytes.now x y q)) c.stat.ensures.same)
        c.in_err-rename.ensures.err,
  );
}
