use Rattle.std.proofs.Common.{ℕ, ◌*◌, ◌+◌, min, arith, rules, ap, sym, ◌∙◌}
use Rattle.pg_types.specs.declared.items.TheConstants.{TOO_GREAT}
use Rattle.pg_types.proofs.Digits.{number_more}
use Rattle.pg_types.proofs.items.read_number.Goals as goal

pub loop-digit-preserved : goal.loop-digit-preserved
loop-digit-preserved c = record {
  small = search rules;
  whole =
      number_more
      TOO_GREAT
      c.args.item.now
      c.loop-digit.digit-index
      c.loop-digit.value
      _
      _
      (omega arith)
      (sym c.is_ascii_digit.ensures.value ∙ c.if-not-is_ascii_digit.false)
      (c.min-value.ensures ∙ ap (λ (d : ℕ). min (c.loop-digit.value * 10 + d) TOO_GREAT) c.from.ensures)
      c.loop-digit.invariant.whole;
}
