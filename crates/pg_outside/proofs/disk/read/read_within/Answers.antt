use Rattle.pg_outside.proofs.Causes.{rose_since}
use Rattle.pg_outside.proofs.Results.{no_value, not_err}
use Rattle.pg_outside.proofs.Runs.{keeps_both}
use Rattle.std.proofs.Common.{refl, ◌∙◌, ◌≡◌, ◌<◌, ◌≤◌, ◌+◌, length, take, ap, arith}
use Rattle.std.proofs.lemmas.Grind.{common_steps}
use Rattle.pg_outside.proofs.ReadLoop.{within_limit, no_more, reads_none, reads_on, reads_less, reads_end, reads_past}
use Rattle.pg_outside.proofs.ReadErrors.{long_or_failed, passed_error, passed_other}
use Rattle.pg_outside.proofs.disk.read.read_within.Goals as goal

pub returns-then-count-eq0 : goal.returns-then-count-eq0
returns-then-count-eq0 g c = record {
  same = keeps_both _ _ _ c.loop-piece.invariant.read.keeps c.read_piece.ensures.same;
  all = let room : 0 < length (take c.min-most.result c.loop-piece.piece) = grind (arith, common_steps) in
      let same : c.read_piece.new.into.items ≡ c.loop-piece.into.items = no_more _ _ _ _ c.if-count-eq0.true c.in_ok-count.ensures.items in (
        c.in_ok-count.ensures.ok_failures ∙ c.loop-piece.invariant.failures,
        omega (arith, ap length same),
        reads_end _ _ _ _ _ _ _ _ _ _ _ _ _ c.loop-piece.invariant.read c.read_piece.ensures.same c.in_ok-count.ensures.bytes c.if-count-eq0.true room same,
      );
  front = λ is. absurd (not_err _ _ is);
  failed = λ is. absurd (not_err _ _ is);
  other_failures = tt;
}

pub loop-piece-preserved : goal.loop-piece-preserved
loop-piece-preserved g c =
    let bound : c.in_ok-count.count ≤ length c.read_piece.new.piece = omega (arith, c.in_ok-count.ensures.bound, c.read_piece.auto.piece) in
    let within : length c.read_piece.new.into.items ≤ c.args.limit + 1 =
    within_limit c.loop-piece.into.items _ c.read_piece.new.piece c.loop-piece.piece c.in_ok-count.count c.min-most.result c.args.limit c.in_ok-count.ensures.items c.in_ok-count.ensures.bound
    (omega arith) (omega arith) in
    record {
      read = reads_on _ _ _ _ _ _ _ _ _ _ _ _ _ _ c.loop-piece.invariant.read c.read_piece.ensures.same c.read_piece.ensures.file c.in_ok-count.ensures.bytes bound c.in_ok-count.ensures.items within;
      failures = c.in_ok-count.ensures.ok_failures ∙ c.loop-piece.invariant.failures;
    }

pub loop-piece-smaller : goal.loop-piece-smaller
loop-piece-smaller g c =
    let bound : c.in_ok-count.count ≤ length c.read_piece.new.piece = omega (arith, c.in_ok-count.ensures.bound, c.read_piece.auto.piece) in
    reads_less c.loop-piece.into.items _ c.read_piece.new.piece c.in_ok-count.count c.args.limit c.in_ok-count.ensures.items bound (omega arith) (omega arith)

pub returns : goal.returns
returns g c = record {
  same = c.loop-piece.invariant.read.keeps;
  all = tt;
  front = let past : c.args.limit < length c.loop-piece.into.items = omega arith in
      let within = c.loop-piece.invariant.read.within in
      λ long. (omega arith, reads_past _ _ _ _ _ _ _ c.loop-piece.invariant.read past);
  failed = λ is. absurd (long_or_failed _ refl is);
  other_failures = λ _. c.loop-piece.invariant.failures;
}

pub returns-in_err-count : goal.returns-in_err-count
returns-in_err-count g c = record {
  same = keeps_both _ _ _ c.loop-piece.invariant.read.keeps c.read_piece.ensures.same;
  all = no_value _ c.from_residual.result c.from_residual.ensures.0;
  front = λ is. absurd (c.in_err-count.ensures.long (passed_error c.from_residual.result _ _ c.from_residual.ensures.1 is));
  failed = λ is. rose_since _ _ _ c.loop-piece.invariant.failures (c.in_err-count.ensures.failed (passed_error c.from_residual.result _ _ c.from_residual.ensures.1 is));
  other_failures = passed_other c.from_residual.result _ c.from_residual.ensures.1 (λ apart. c.in_err-count.ensures.other_failures apart ∙ c.loop-piece.invariant.failures);
}

pub loop-piece-init : goal.loop-piece-init
loop-piece-init g c = record { read = reads_none _ _ _ _ _ c.requires.start (c.reserve.ensures.items ∙ c.requires.empty); failures = refl }
