use Rattle.std.proofs.Common.{◌≡◌, ◌+◌, Some, length, refl, true, false, sym, ap, ◌∙◌, arith}
use Rattle.std.specs.Str.{bytes_eq}
use Rattle.std.specs.Prelude.{not}
use Rattle.pg_audit.specs.Inside.Cut.{first_whole, rest_whole}
use Rattle.pg_audit.specs.Differences.{whole_lines, difference_from}
use Rattle.pg_audit.proofs.Cuts.{whole_length, other_first, same_first, filled_first, given_ends, both_end}
use Rattle.pg_audit.proofs.Least.{is_least, missing_where, none_where_equal, some_differ}
use Rattle.pg_audit.proofs.lines.compare.Goals as goal

-- a line that differs
pub returns-then-ne-clause-answer : goal.returns-then-ne-clause-answer
returns-then-ne-clause-answer c =
    let other : not (bytes_eq (first_whole c.lines.rest.now) (first_whole c.lines.due.now))
    ≡ true = rw (← c.first_line.ensures.line, ← c.first_line-in-lines.ensures.line) (sym c.ne.ensures ∙ c.if-ne.true) in
    sym c.lines.invariant.answer
    ∙ other_first c.lines.line c.lines.rest.now c.lines.due.now (sym c.is_empty.ensures ∙ c.lines-test.true) other
    ∙ ap (λ r. Some (c.lines.line, r)) (sym c.first_line.ensures.line)

pub returns-then-ne-clause-equal : goal.returns-then-ne-clause-equal
returns-then-ne-clause-equal c = (λ no. cc, λ same. absurd (some_differ _ _ _ (returns-then-ne-clause-answer c) same))

pub returns-then-ne-clause-least : goal.returns-then-ne-clause-least
returns-then-ne-clause-least c = is_least _ _ _ (returns-then-ne-clause-answer c)

pub returns-then-ne-clause-missing : goal.returns-then-ne-clause-missing
returns-then-ne-clause-missing c = missing_where c.args.given.now c.args.wanted.now _ (returns-then-ne-clause-answer c)

pub returns-then-ne-clause-within : goal.returns-then-ne-clause-within
returns-then-ne-clause-within c =
    let cut = whole_length c.lines.rest.now in
    let filled = filled_first c.lines.rest.now (sym c.is_empty.ensures ∙ c.lines-test.true) in
    omega (arith, ap length c.first_line.ensures.line, c.lines.invariant.room, c.lines.invariant.low)

pub lines-smaller : goal.lines-smaller
lines-smaller c =
    let cut = whole_length c.lines.rest.now in
    let filled = filled_first c.lines.rest.now (sym c.is_empty.ensures ∙ c.lines-test.true) in
    omega (arith, ap length c.first_line.ensures.rest)

pub lines-preserved : goal.lines-preserved
lines-preserved c =
    let cut = whole_length c.lines.rest.now in
    let filled = filled_first c.lines.rest.now (sym c.is_empty.ensures ∙ c.lines-test.true) in
    let same : not (bytes_eq (first_whole c.lines.rest.now) (first_whole c.lines.due.now))
    ≡ false = rw (← c.first_line.ensures.line, ← c.first_line-in-lines.ensures.line) (sym c.ne.ensures ∙ c.if-ne.false) in
    record {
      answer =
          ap (λ r. difference_from (c.lines.line + 1) (whole_lines r) (whole_lines c.first_line-in-lines.result.1.now)) c.first_line.ensures.rest
          ∙ ap (λ r. difference_from (c.lines.line + 1) (whole_lines (rest_whole c.lines.rest.now)) (whole_lines r)) c.first_line-in-lines.ensures.rest
          ∙ sym (same_first c.lines.line c.lines.rest.now c.lines.due.now (sym c.is_empty.ensures ∙ c.lines-test.true) same)
          ∙ c.lines.invariant.answer;
      room = omega (arith, ap length c.first_line.ensures.rest, c.lines.invariant.room);
      low = omega (arith, c.lines.invariant.low);
    }

-- the end of the given file
pub returns-then-is_empty-clause-answer : goal.returns-then-is_empty-clause-answer
returns-then-is_empty-clause-answer c =
    sym c.lines.invariant.answer
    ∙ both_end c.lines.line c.lines.rest.now c.lines.due.now (sym c.is_empty.ensures ∙ c.lines-test.false) (sym c.is_empty-2.ensures ∙ c.if-is_empty.true)

pub returns-then-is_empty-clause-equal : goal.returns-then-is_empty-clause-equal
returns-then-is_empty-clause-equal c = (λ _. none_where_equal _ _ (returns-then-is_empty-clause-answer c), λ _. refl)

pub returns-else-is_empty-clause-answer : goal.returns-else-is_empty-clause-answer
returns-else-is_empty-clause-answer c =
    sym c.lines.invariant.answer
    ∙ given_ends c.lines.line c.lines.rest.now c.lines.due.now (sym c.is_empty.ensures ∙ c.lines-test.false) (sym c.is_empty-2.ensures ∙ c.if-is_empty.false)

pub returns-else-is_empty-clause-equal : goal.returns-else-is_empty-clause-equal
returns-else-is_empty-clause-equal c = (λ no. cc, λ same. absurd (some_differ _ _ _ (returns-else-is_empty-clause-answer c) same))

pub returns-else-is_empty-clause-least : goal.returns-else-is_empty-clause-least
returns-else-is_empty-clause-least c = is_least _ _ _ (returns-else-is_empty-clause-answer c)

pub returns-else-is_empty-clause-missing : goal.returns-else-is_empty-clause-missing
returns-else-is_empty-clause-missing c = missing_where c.args.given.now c.args.wanted.now _ (returns-else-is_empty-clause-answer c)

pub lines-init : goal.lines-init
lines-init c = record { answer = refl; low = omega arith; room = omega arith }
