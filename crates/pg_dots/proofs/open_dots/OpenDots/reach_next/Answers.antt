use Rattle.std.proofs.Common.{◌+◌, ◌*◌, length, take, ap, ◌∙◌, arith, length-append}
use Rattle.std.proofs.lemmas.List.{length-take-le}
use Rattle.pg_types.specs.Inside.Bits.{has_bit}
use Rattle.pg_dots.specs.Inside.Dots.{is_closed, dot_row}
use Rattle.pg_dots.proofs.Places.{reached_more}
use Rattle.pg_dots.proofs.open_dots.OpenDots.reach_next.Goals as goal

pub returns-clause-closed : goal.returns-clause-closed
unfolding is_closed
returns-clause-closed c = λ d j within.
    let o = c.args.self.now in
    ap (λ bits. has_bit bits (dot_row (o.reached + 1) d * (64 * o.width) + j)) c.in_ok-push_first.ensures.ok
    ∙ reached_more o.bits.items o.width o.reached d j o.rows within

pub invariant_of-self-2 : goal.invariant_of-self-2
invariant_of-self-2 c =
    let o = c.args.self.now in
    record {
      some = o.some;
      narrow = o.narrow;
      few = omega arith;
      rows = ap length c.in_ok-push_first.ensures.ok ∙ length-append o.bits.items (take o.width o.bits.items)
          ∙ (let size = length-take-le o.width o.bits.items (omega (arith, o.rows)) in omega (arith, o.rows));
    }

pub returns-in_err-push_first-clause-closed : goal.returns-in_err-push_first-clause-closed
unfolding is_closed
returns-in_err-push_first-clause-closed c = λ d j within.
    let o = c.args.self.now in
    ap (λ bits. has_bit bits (dot_row o.reached d * (64 * o.width) + j)) c.in_err-push_first.ensures.err
