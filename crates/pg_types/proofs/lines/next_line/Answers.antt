use Rattle.std.proofs.Common.{◌+◌, length, sym, ◌∙◌, refl, arith}
use Rattle.std.proofs.Math.Seq.{take-length}
use Rattle.std.proofs.lemmas.List.{take_rest, drop_all}
use Rattle.pg_types.proofs.Pieces.{lines_first, lines_last, line_feed_at, line_feed_nowhere}
use Rattle.pg_types.proofs.lines.next_line.Goals as goal

pub returns-in-Some-clause-lines : goal.returns-in-Some-clause-lines
returns-in-Some-clause-lines c =
    lines_first c.args.rest.now _ c.in-Some.end c.strip_cr.ensures.value c.in-Some.ensures.0.before c.in-Some.ensures.0.high c.in-Some.ensures.1

pub returns-in-None-clause-lines : goal.returns-in-None-clause-lines
returns-in-None-clause-lines c =
    lines_last c.args.rest.now _ (sym c.is_empty.ensures ∙ c.if-is_empty.false) c.strip_cr-in-None.ensures.value c.in-None.ensures

pub returns-in-Some-clause-line : goal.returns-in-Some-clause-line
returns-in-Some-clause-line c =
    rw (line_feed_at c.args.rest.now c.in-Some.end c.in-Some.ensures.0.before c.in-Some.ensures.0.high c.in-Some.ensures.1) c.strip_cr.ensures.value

pub returns-in-Some-clause-rest : goal.returns-in-Some-clause-rest
returns-in-Some-clause-rest c =
    rw (line_feed_at c.args.rest.now c.in-Some.end c.in-Some.ensures.0.before c.in-Some.ensures.0.high c.in-Some.ensures.1) (take_rest c.args.rest.now (c.in-Some.end + 1))

pub returns-in-None-clause-line : goal.returns-in-None-clause-line
returns-in-None-clause-line c =
    rw (line_feed_nowhere c.args.rest.now c.in-None.ensures, take-length) c.strip_cr-in-None.ensures.value

pub returns-in-None-clause-rest : goal.returns-in-None-clause-rest
returns-in-None-clause-rest c =
    rw (
      line_feed_nowhere c.args.rest.now c.in-None.ensures,
      take_rest c.args.rest.now (length c.args.rest.now),
      drop_all (length c.args.rest.now) c.args.rest.now (omega arith),
      drop_all (length c.args.rest.now + 1) c.args.rest.now (omega arith),
    ) refl

pub returns-then-is_empty-clause-line : goal.returns-then-is_empty-clause-line
returns-then-is_empty-clause-line c = tt

pub returns-then-is_empty-clause-rest : goal.returns-then-is_empty-clause-rest
returns-then-is_empty-clause-rest c = tt

pub returns-then-is_empty-clause-shorter : goal.returns-then-is_empty-clause-shorter
returns-then-is_empty-clause-shorter c = tt

pub returns-then-is_empty-clause-within : goal.returns-then-is_empty-clause-within
returns-then-is_empty-clause-within c = tt
