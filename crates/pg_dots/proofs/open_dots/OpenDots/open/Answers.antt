use Rattle.std.proofs.Common.{◌≡◌, ◌+◌, ◌*◌, not, nat_eq, ◌&&◌, sym, ap, ◌∙◌, rules}
use Rattle.std.proofs.lemmas.List.{with_items_is, places}
use Rattle.pg_types.specs.Inside.Bits.{has_bit}
use Rattle.pg_dots.specs.Inside.Dots.{is_closed, dot_row}
use Rattle.pg_dots.proofs.Places.{first_row}
use Rattle.pg_dots.proofs.open_dots.OpenDots.open.Goals as goal

pub returns-clause-closed : goal.returns-clause-closed
unfolding is_closed
returns-clause-closed c = λ dot j within.
    let o = c.args.self.now in
    let new = with_items_is o.bits c.clear.new.row (search (rules, places)) in
    let old : c.deref_mut.result.now ≡ o.bits.items = c.deref_mut.ensures.value in
    (λ k. has_bit (new k) (dot_row (c.requires.none k) dot * (64 * o.width) + j))
    ∙ first_row o.bits.items c.clear.new.row o.width dot c.args.i j (λ p. c.clear.ensures p ∙ ap (λ bits. not (nat_eq p c.args.i) && has_bit bits p) old)
    ∙ (λ k. not (nat_eq j c.args.i) && has_bit o.bits.items (dot_row (sym c.requires.none k) dot * (64 * o.width) + j))
