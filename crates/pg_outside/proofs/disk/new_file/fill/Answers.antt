use Rattle.std.proofs.Common.{◌∙◌, rules}
use Rattle.std.proofs.lemmas.Result.{on_err_weaker, on_ok_weaker}
use Rattle.pg_outside.proofs.Causes.{rose_since, on_ok_both, on_err_both}
use Rattle.pg_outside.proofs.Results.{on_err, no_value}
use Rattle.pg_outside.proofs.WriteLoop.{mode_then_failed, fills, fill_fails}
use Rattle.pg_outside.proofs.disk.new_file.fill.Goals as goal

pub returns-in_err-keep_mode : goal.returns-in_err-keep_mode
returns-in_err-keep_mode g c = record {
  file = c.keep_mode.ensures.file;
  ok = no_value _ c.from_residual.result c.from_residual.ensures.0;
  err = on_err c.from_residual.result c.in_err-keep_mode.ensures.err;
}

pub returns-in_err-write_all : goal.returns-in_err-write_all
returns-in_err-write_all g c = record {
  file = c.write_all.ensures.file ∙ c.keep_mode.ensures.file;
  ok = no_value _ c.from_residual-in_err-write_all.result c.from_residual-in_err-write_all.ensures.0;
  err = on_err c.from_residual-in_err-write_all.result (
    rose_since _ _ _ c.in_ok-keep_mode.ensures.ok.0 c.in_err-write_all.ensures.err.0,
    mode_then_failed _ _ c.args.mode c.args.bytes.now _ _ _ c.in_ok-keep_mode.ensures.ok.1 c.keep_mode.ensures.file c.in_err-write_all.ensures.err.1,
  );
}

pub returns : goal.returns
returns g c = record {
  file = search rules;
  ok = on_ok_both _ _ c.sync.result
      (on_ok_weaker c.sync.result (λ same. same ∙ c.in_ok-write_all.ensures.ok.0 ∙ c.in_ok-keep_mode.ensures.ok.0) c.sync.ensures.ok_failures)
      (on_ok_weaker c.sync.result (λ steps. fills _ _ _ c.args.mode c.args.bytes.now _ _ _ _ c.in_ok-keep_mode.ensures.ok.1 c.keep_mode.ensures.file
      c.in_ok-write_all.ensures.ok.1 c.write_all.ensures.file steps) c.sync.ensures.ok);
  err = on_err_both _ _ c.sync.result
      (on_err_weaker c.sync.result (λ rose. rose_since _ _ _ (c.in_ok-write_all.ensures.ok.0 ∙ c.in_ok-keep_mode.ensures.ok.0) rose) c.sync.ensures.failed)
      (on_err_weaker c.sync.result (λ steps. fill_fails _ _ _ c.args.mode c.args.bytes.now _ _ _ _ c.in_ok-keep_mode.ensures.ok.1 c.keep_mode.ensures.file
      c.in_ok-write_all.ensures.ok.1 c.write_all.ensures.file steps) c.sync.ensures.err);
}
