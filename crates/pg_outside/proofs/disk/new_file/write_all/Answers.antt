use Rattle.std.proofs.lemmas.List.{take_rest}
use Rattle.std.proofs.Common.{◌∙◌, refl, sym, arith}
use Rattle.pg_outside.proofs.Causes.{rose_since}
use Rattle.pg_outside.proofs.Results.{on_err, no_value}
use Rattle.pg_outside.proofs.WriteLoop.{written_none, written_step, written_then_failed, written_part, written_whole}
use Rattle.pg_outside.proofs.disk.new_file.write_all.Goals as goal

pub loop-rest-init : goal.loop-rest-init
loop-rest-init g c = record { written = written_none _ _ _; failures = refl }

pub returns : goal.returns
returns g c = record {
  file = c.loop-rest.invariant.written.same_file;
  ok = (c.loop-rest.invariant.failures, written_whole _ _ _ _ _ _ c.loop-rest.invariant.written (sym c.is_empty.ensures ∙ c.loop-rest-test.false));
  err = tt;
}

pub returns-in_err-count : goal.returns-in_err-count
returns-in_err-count g c = record {
  file = c.write_some.ensures.file ∙ c.loop-rest.invariant.written.same_file;
  ok = no_value _ c.from_residual.result c.from_residual.ensures.0;
  err = on_err c.from_residual.result (
    rose_since _ _ _ c.loop-rest.invariant.failures c.in_err-count.ensures.failed,
    written_then_failed _ _ _ _ _ _ _ c.loop-rest.invariant.written c.in_err-count.ensures.err,
  );
}

pub returns-then-count-eq0 : goal.returns-then-count-eq0
returns-then-count-eq0 g c = record {
  file = c.write_some.ensures.file ∙ c.loop-rest.invariant.written.same_file;
  ok = tt;
  err = (
    rose_since _ _ _ c.loop-rest.invariant.failures (c.in_ok-count.ensures.none (omega arith)),
    written_part _ _ _ _ _ _ (written_step _ _ _ _ _ _ _ _ _ c.in_ok-count.count c.loop-rest.invariant.written c.write_some.ensures.file c.in_ok-count.ensures.ok
        (take_rest c.loop-rest.rest.now c.in_ok-count.count)),
  );
}

pub loop-rest-preserved : goal.loop-rest-preserved
loop-rest-preserved g c = record {
  written = written_step _ _ _ _ _ _ _ _ _ c.in_ok-count.count c.loop-rest.invariant.written c.write_some.ensures.file c.in_ok-count.ensures.ok (take_rest c.loop-rest.rest.now c.in_ok-count.count);
  failures = c.in_ok-count.ensures.ok_failures (omega arith) ∙ c.loop-rest.invariant.failures;
}
