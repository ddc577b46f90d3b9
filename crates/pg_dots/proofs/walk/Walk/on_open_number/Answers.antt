use Rattle.std.proofs.Common.{refl, arith}
use Rattle.pg_dots.proofs.Walks.{ahead_next}
use Rattle.pg_dots.proofs.walk.Walk.on_open_number.Goals as goal

pub returns-then-walk-ne0-clause-ahead : goal.returns-then-walk-ne0-clause-ahead
returns-then-walk-ne0-clause-ahead c = λ from begun. ahead_next c.args.row.now c.numbers.walk c.numbers.at from c.numbers.invariant.none c.numbers.invariant.next
    (omega (arith, c.type_inv.row c.numbers.at)) (c.numbers.invariant.ahead from begun)

pub numbers-preserved : goal.numbers-preserved
numbers-preserved c = record {
  next = refl;
  none = c.if-walk-ne0.false;
  within = c.numbers-test.true;
  ahead = λ from begun. ahead_next c.args.row.now c.numbers.walk c.numbers.at from c.numbers.invariant.none c.numbers.invariant.next
      (omega (arith, c.type_inv.row c.numbers.at)) (c.numbers.invariant.ahead from begun);
}
