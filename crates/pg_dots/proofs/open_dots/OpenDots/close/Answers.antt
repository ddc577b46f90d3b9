use Rattle.std.proofs.Common.{◌≡◌, ◌+◌, ◌*◌, nat_eq, ◌||◌, ap, ◌∙◌, arith, rules}
use Rattle.std.proofs.lemmas.List.{with_items_is, places}
use Rattle.pg_types.specs.Inside.Bits.{has_bit}
use Rattle.pg_dots.specs.Inside.Dots.{is_closed, dot_row}
use Rattle.pg_dots.proofs.Places.{closed_more}
use Rattle.pg_dots.proofs.open_dots.OpenDots.close.Goals as goal

pub returns-clause-closed : goal.returns-clause-closed
unfolding is_closed
returns-clause-closed c = λ d j within.
    let o = c.args.self.now in
    let new = with_items_is o.bits c.set.new.row (search (rules, places)) in
    let place : (c.from.result + 1) * o.width * 64 + c.args.i ≡ (c.args.dot + 1) * (64 * o.width) + c.args.i =
    (let same : o.width * c.from.result ≡ o.width * c.args.dot = ap (λ k. o.width * k) c.from.ensures in omega arith) in
    ap (λ bits. has_bit bits (dot_row o.reached d * (64 * o.width) + j)) new
    ∙ closed_more o.bits.items c.set.new.row o.width o.reached c.args.dot c.args.i d j c.requires.dot c.requires.within within
    (λ p. c.set.ensures p ∙ (λ k. nat_eq p (place k) || has_bit (c.deref_mut.ensures.value k) p))
