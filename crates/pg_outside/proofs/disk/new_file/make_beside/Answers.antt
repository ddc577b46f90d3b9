use Rattle.std.proofs.Common.{◌≡◌, ◌∙◌, refl, sym, string_bytes, arith}
use Rattle.std.proofs.lemmas.Bool.{true≢false}
use Rattle.std.proofs.lemmas.Slice.Eq.{bytes_eq-Decides}
use Rattle.pg_outside.specs.Inside.disk.NewNames.{new_name}
use Rattle.pg_outside.proofs.Causes.{rose_since, failed_on, memory_on}
use Rattle.pg_outside.proofs.Results.{on_err, no_value}
use Rattle.pg_outside.proofs.NewNameLoop.{is_named, none_tried, skipped, taken, all_taken}
use Rattle.pg_outside.proofs.Runs.{keeps_self, keeps_both, keeps_steps}
use Rattle.std.proofs.lemmas.Result.{IfOk-from_err}
use Rattle.std.specs.Str.{bytes_eq}
use Rattle.pg_outside.proofs.disk.new_file.make_beside.Goals as goal

pub loop-number-preserved-then-eq : goal.loop-number-preserved-then-eq
loop-number-preserved-then-eq g c =
    let own : string_bytes c.in_ok-own.own ≡ new_name c.folder_of-folder.result.now c.loop-number.number-counter = is_named _ _ _ c.in_ok-own.ensures.ok in
    let same : string_bytes c.in_ok-own.own ≡ c.args.name.now =
    sym c.as_str.ensures.value ∙ (bytes_eq-Decides c.as_str.result.now c.args.name.now).0 (sym {b = bytes_eq c.as_str.result.now c.args.name.now} c.if-eq.ensures) in
    record {
      same = c.loop-number.invariant.same;
      failures = c.loop-number.invariant.failures;
      tried = skipped _ _ _ c.loop-number.number-counter _ refl c.loop-number.invariant.tried (sym own ∙ same);
    }

pub returns-in-Some : goal.returns-in-Some
returns-in-Some g c = record {
  ok = keeps_steps _ _ _ _ c.loop-number.invariant.same (rw (c.in-Some.is, c.as_str-in-loop-number.ensures.value) at c.in_ok-file.ensures.ok);
  err = tt;
  own = record {
    folder = c.folder_of-folder.result.now;
    is_folder = c.folder_of-folder.ensures;
    counted = c.loop-number.number-counter;
    is = is_named _ _ _ c.in_ok-own.ensures.ok;
  };
  apart = λ same. true≢false (sym (c.if-eq.ensures ∙ (bytes_eq-Decides c.as_str.result.now c.args.name.now).1 (c.as_str.ensures.value ∙ same)));
  ok_failures = c.in_ok-file.ensures.ok_failures ∙ c.loop-number.invariant.failures;
  cause = tt;
}

pub returns : goal.returns
returns g c = record {
  ok = tt;
  err = c.loop-number.invariant.same;
  own = tt;
  apart = tt;
  ok_failures = tt;
  cause = (c.loop-number.invariant.failures, all_taken _ _ _ _ c.folder_of-folder.ensures (omega arith) c.loop-number.invariant.tried);
}

pub returns-in_err-own : goal.returns-in_err-own
returns-in_err-own g c = record {
  ok = IfOk-from_err _ _ c.from_residual.ensures.0;
  err = on_err c.from_residual.result c.loop-number.invariant.same;
  own = IfOk-from_err _ _ c.from_residual.ensures.0;
  apart = IfOk-from_err _ _ c.from_residual.ensures.0;
  ok_failures = no_value _ c.from_residual.result c.from_residual.ensures.0;
  cause = memory_on c.from_residual.result _ _ _ _ _ _ c.from_residual.ensures.1 c.loop-number.invariant.failures;
}

pub returns-in_err-file : goal.returns-in_err-file
returns-in_err-file g c = record {
  ok = IfOk-from_err _ _ c.from_residual-in_err-file.ensures.0;
  err = on_err c.from_residual-in_err-file.result (keeps_both _ _ _ c.loop-number.invariant.same c.in_err-file.ensures.err);
  own = IfOk-from_err _ _ c.from_residual-in_err-file.ensures.0;
  apart = IfOk-from_err _ _ c.from_residual-in_err-file.ensures.0;
  ok_failures = no_value _ c.from_residual-in_err-file.result c.from_residual-in_err-file.ensures.0;
  cause = failed_on c.from_residual-in_err-file.result _ _ _ _ _ _ c.from_residual-in_err-file.ensures.1 (rose_since _ _ _ c.loop-number.invariant.failures c.in_err-file.ensures.failed);
}

pub loop-number-preserved : goal.loop-number-preserved
loop-number-preserved g c =
    let own : string_bytes c.in_ok-own.own ≡ new_name c.folder_of-folder.result.now c.loop-number.number-counter = is_named _ _ _ c.in_ok-own.ensures.ok in
    let same = rw c.in_default.is at c.in_ok-file.ensures.ok in
    let is_taken = rw c.in_default.is at c.in_ok-file.ensures.taken in
    record {
      same = keeps_both _ _ _ c.loop-number.invariant.same same;
      failures = c.in_ok-file.ensures.ok_failures ∙ c.loop-number.invariant.failures;
      tried = taken _ _ _ _ _ c.loop-number.number-counter _ same refl (c.as_str-in-loop-number.ensures.value ∙ own) c.loop-number.invariant.tried is_taken;
    }

pub loop-number-init : goal.loop-number-init
loop-number-init g c = record { same = keeps_self _; failures = refl; tried = none_tried _ _ _ }
