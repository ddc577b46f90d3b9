use Rattle.std.proofs.lemmas.Result.{on_err_weaker, on_ok_weaker}
use Rattle.pg_outside.proofs.Causes.{on_ok_both, on_err_both}
use Rattle.pg_outside.proofs.Runs.{one_step, runs_weaker}
use Rattle.pg_outside.proofs.FileSteps.{got_mode, got_mode_disturbed}
use Rattle.pg_outside.proofs.disk.new_file.keep_mode.Goals as goal

pub returns-in-Some : goal.returns-in-Some
returns-in-Some g c = record {
  file = c.set_mode.ensures.file;
  ok = on_ok_both _ _ c.set_mode.result c.set_mode.ensures.ok_failures
      (on_ok_weaker c.set_mode.result (λ steps. rw c.in-Some.is (runs_weaker _ _ _ _ _ _ (one_step _ _ _ steps) (λ x y p. got_mode_disturbed _ _ x y p) (λ x y q. got_mode _ _ x y q)))
      c.set_mode.ensures.ok);
  err = on_err_both _ _ c.set_mode.result c.set_mode.ensures.failed (on_err_weaker c.set_mode.result (λ steps. one_step _ _ _ steps) c.set_mode.ensures.err);
}
