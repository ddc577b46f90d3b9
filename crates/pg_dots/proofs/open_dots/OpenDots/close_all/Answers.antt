use Rattle.std.proofs.Common.{◌+◌, ◌*◌, nat_eq, ◌||◌, ap, ◌∙◌, arith, rules}
use Rattle.std.proofs.lemmas.List.{with_items_is, places}
use Rattle.pg_types.specs.Inside.Bits.{has_bit}
use Rattle.pg_dots.specs.Inside.Dots.{is_closed, dot_row}
use Rattle.pg_dots.proofs.Places.{row_within}
use Rattle.pg_dots.proofs.open_dots.OpenDots.close_all.Goals as goal

pub returns-clause-closed : goal.returns-clause-closed
unfolding is_closed
returns-clause-closed c = λ d j within.
    let o = c.args.self.now in
    let new = with_items_is o.bits c.set_in_rows.new.bits (search (rules, places)) in
    ap (λ bits. has_bit bits (dot_row o.reached d * (64 * o.width) + j)) new
    ∙ c.set_in_rows.ensures (dot_row o.reached d) j (omega (arith, row_within o.reached d)) within
    ∙ ap (λ bits. nat_eq j c.args.i || has_bit bits (dot_row o.reached d * (64 * o.width) + j)) c.deref_mut.ensures.value
