use Rattle.std.proofs.Common.{◌≡◌, ◌<◌, ◌*◌, ◌+◌, ◌/◌, ℕ, List, length, false, get_or, inl, inr, arith}
use Rattle.std.proofs.lemmas.Bool.{cases_lt}
use Rattle.pg_types.specs.Inside.Bits.{has_bit}
use Rattle.pg_dots.proofs.Shifts.{and_old, and_other, read_bit}
use Rattle.pg_dots.proofs.bits.keep_shifted.Goals as goal

pub numbers-preserved : goal.numbers-preserved
numbers-preserved c =
    let x = c.numbers.x in
    let row : List ℕ = c.numbers.row in
    let b : ℕ = c.bits_from.result in
    let size : length row ≡ length c.args.row.now = c.numbers.auto.row in
    let inside : x < length row = omega (arith, c.numbers-test.true) in
    record {
      old = λ j is. and_old row x b j inside (c.numbers.invariant.old j is);
      other = λ j low is. elim (cases_lt j (64 * x)) [
        | inl before ↦ and_old row x b j inside (c.numbers.invariant.other j before is)
        | inr here ↦ (let number : j / 64 ≡ x = omega arith in and_other row x b j inside number (read_bit c.args.other.now c.args.by x b j c.bits_from.ensures number is))
      ];
    }
