use Rattle.std.proofs.Common.{◌∙◌, inl, refl}
use Rattle.std.proofs.lemmas.Result.{on_ok_weaker, IfErr-weaker}
use Rattle.pg_outside.specs.Inside.disk.Writes.{KeepsOnly}
use Rattle.pg_outside.proofs.Causes.{rose_since}
use Rattle.pg_outside.proofs.DiskReading.{reads_content, reads_front, is_noted, keeps_only}
use Rattle.pg_outside.proofs.Results.{if_err, no_value}
use Rattle.pg_outside.proofs.Runs.{keeps_self, keeps_both, now_always}
use Rattle.pg_outside.proofs.ReadErrors.{long_or_failed, memory_or_long, memory_or_failed}
use Rattle.pg_outside.proofs.disk.files.read_named.Goals as goal

pub returns-in_default : goal.returns-in_default
returns-in_default g c = record {
  same = (c.open.ensures.same, λ id is. is, now_always (KeepsOnly _ _ _) _ (λ d. inl refl));
  all = tt;
  front = λ is. absurd (long_or_failed _ is refl);
  failed = λ _. c.in_default.ensures.failed;
  other_failures = λ apart. absurd (apart refl);
}

pub returns-in_default-stat : goal.returns-in_default-stat
returns-in_default-stat g c = record {
  same = (keeps_both _ _ _ c.open.ensures.same c.stat.ensures.same, λ id is. is, now_always (KeepsOnly _ _ _) _ (λ d. inl refl));
  all = tt;
  front = λ is. absurd (long_or_failed _ is refl);
  failed = λ _. rose_since _ _ _ c.in-Ok.ensures.ok_failures c.in_default-stat.ensures.failed;
  other_failures = λ apart. absurd (apart refl);
}

pub returns-in_err-keep_regular : goal.returns-in_err-keep_regular
returns-in_err-keep_regular g c = record {
  same = (
    keeps_both _ _ _ c.open.ensures.same c.stat.ensures.same,
    c.keep_regular.ensures.all,
    keeps_only _ _ _ _ _ _ _ _ c.in-Ok.ensures.opened c.stat.ensures.same c.in-Ok-stat.ensures.seen c.keep_regular.ensures.only (keeps_self _),
  );
  all = no_value _ c.from_residual.result c.from_residual.ensures.0;
  front = λ is. absurd (memory_or_long _ c.from_residual.ensures.1 is);
  failed = λ is. absurd (memory_or_failed _ c.from_residual.ensures.1 is);
  other_failures = if_err _ c.from_residual.result (λ _ _. c.in-Ok-stat.ensures.ok_failures ∙ c.in-Ok.ensures.ok_failures);
}

pub returns : goal.returns
returns g c = record {
  same = (
    keeps_both _ _ _ (keeps_both _ _ _ c.open.ensures.same c.stat.ensures.same) c.read_within.ensures.same,
    c.keep_regular.ensures.all,
    keeps_only _ _ _ _ _ _ _ _ c.in-Ok.ensures.opened c.stat.ensures.same c.in-Ok-stat.ensures.seen c.keep_regular.ensures.only c.read_within.ensures.same,
  );
  all = on_ok_weaker c.read_within.result (λ all. (
    all.0 ∙ c.in-Ok-stat.ensures.ok_failures ∙ c.in-Ok.ensures.ok_failures,
    all.1,
    reads_content _ _ _ _ _ c.in-Ok.ensures.opened (keeps_both _ _ _ c.stat.ensures.same c.read_within.ensures.same) all.2,
    is_noted _ _ _ _ _ _ _ c.in-Ok.ensures.opened c.stat.ensures.same c.in-Ok-stat.ensures.seen c.in_ok-keep_regular.ensures.noted c.read_within.ensures.same,
  )) c.read_within.ensures.all;
  front = λ long.
      let front = c.read_within.ensures.front long in (
        front.0,
        reads_front _ _ _ _ _ _ c.in-Ok.ensures.opened (keeps_both _ _ _ c.stat.ensures.same c.read_within.ensures.same) front.1,
        is_noted _ _ _ _ _ _ _ c.in-Ok.ensures.opened c.stat.ensures.same c.in-Ok-stat.ensures.seen c.in_ok-keep_regular.ensures.noted c.read_within.ensures.same,
      );
  failed = λ is. rose_since _ _ _ (c.in-Ok-stat.ensures.ok_failures ∙ c.in-Ok.ensures.ok_failures) (c.read_within.ensures.failed is);
  other_failures = IfErr-weaker c.read_within.result _ _ (λ _ same apart. same apart ∙ c.in-Ok-stat.ensures.ok_failures ∙ c.in-Ok.ensures.ok_failures) c.read_within.ensures.other_failures;
}
