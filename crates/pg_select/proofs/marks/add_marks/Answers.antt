use Rattle.std.proofs.Common.{◌≡◌, ◌≤◌, ◌<◌, ◌+◌, ◌-◌, ℕ, true, false, length, slice_index_or, ap, ◌∙◌, arith}
use Rattle.pg_dict.specs.Inside.LentWords.{lent_word}
use Rattle.pg_dict.specs.Inside.SoundWords.{letter_count}
use Rattle.pg_select.specs.Statuses.{status, position_weight}
use Rattle.pg_select.specs.Inside.SumSteps.{with_mark, sum_of}
use Rattle.pg_types.specs.declared.marks.Mark.{Mark}
use Rattle.pg_types.specs.declared.limits.TheConstants.{WEIGHT_MAX}
use Rattle.pg_select.proofs.MarkSteps.{marks_done_by, marks_step_by, mark_took, weight_small}
use Rattle.pg_select.proofs.marks.add_marks.Goals as goal

pub positions-preserved : goal.positions-preserved
positions-preserved c =
    let w = lent_word c.args.w.now in
    let p = c.positions.p in
    let within : p < length w.signs = omega (arith, c.positions-test.true, c.in-Some.ensures.within) in
    let small : position_weight w p ≤ WEIGHT_MAX = weight_small w p c.requires.word within in
    let sums : c.add_mark-sums.result ≡ with_mark c.positions.sums c.mark_at.result (position_weight w p) = c.add_mark-sums.ensures in
    let took : sum_of c.add_mark-sums.result ≤ sum_of c.positions.sums + position_weight w p = rw sums (mark_took c.positions.sums c.mark_at.result (position_weight w p)) in
    let few : p - c.in-Some.first + 1 ≤ letter_count w = omega (arith, c.positions-test.true, c.in-Some.ensures.few, c.positions.auto) in
    let on : p + 1 - c.in-Some.first ≡ p - c.in-Some.first + 1 = omega (arith, c.positions.auto) in
    record {
      sums = λ value values.
          marks_step_by c.positions.sums _ _ value w p c.in-Some.end c.positions-test.true
          (sums ∙ ap (λ (x : Mark). with_mark c.positions.sums x (position_weight w p))
          (c.mark_at.ensures ∙ ap (λ (v : ℕ). status (slice_index_or w.hyphens p false) (slice_index_or w.cares p true) v) (values p within)))
          (c.positions.invariant.sums value values);
      few = omega arith;
      took_for = omega (arith, c.positions.invariant.took_for);
    }

pub returns-clause-value : goal.returns-clause-value
returns-clause-value c = λ value values.
    marks_done_by c.positions.sums _ value (lent_word c.args.w.now) c.positions.p c.in-Some.end c.positions-test.false (c.positions.invariant.sums value values)
