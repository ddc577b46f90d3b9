use Rattle.std.proofs.Common.{◌≡◌, ◌<◌, ◌*◌, ◌/◌, ℕ, length, false, get_or, inl, inr, arith}
use Rattle.std.proofs.lemmas.Bool.{cases_lt}
use Rattle.pg_types.specs.Inside.Bits.{has_bit}
use Rattle.pg_dots.proofs.Shifts.{part_clear}
use Rattle.pg_dots.proofs.bits.has_clear_part.Goals as goal

pub numbers-preserved : goal.numbers-preserved
numbers-preserved c = λ j low is. elim (cases_lt j (64 * c.numbers.x)) [
  | inl before ↦ c.numbers.invariant j before is
  | inr here ↦ (let number : j / 64 ≡ c.numbers.x = omega arith in
      part_clear c.args.row.now c.args.whole.now c.numbers.x j (omega (arith, c.type_inv.row c.numbers.x)) (omega (arith, c.if-whole-x-ne0.false)) number is)
]
