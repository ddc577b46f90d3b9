use Rattle.std.proofs.Common.{not, nat_eq, ◌&&◌, ap, ◌∙◌, rules}
use Rattle.std.proofs.lemmas.List.{with_items_is, places}
use Rattle.pg_types.specs.Inside.Bits.{has_bit}
use Rattle.pg_dots.specs.Inside.Positions.{is_among}
use Rattle.pg_dots.proofs.position_set.PositionSet.remove.Goals as goal

pub returns-clause-among : goal.returns-clause-among
unfolding is_among
returns-clause-among c = λ j.
    let s = c.args.self.now in
    let new = with_items_is s.bits c.clear.new.row (search (rules, places)) in
    ap (λ bits. has_bit bits j) new
    ∙ c.clear.ensures j
    ∙ ap (λ bits. not (nat_eq j c.args.i) && has_bit bits j) c.deref_mut.ensures.value
