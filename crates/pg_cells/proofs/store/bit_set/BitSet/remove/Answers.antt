use Rattle.std.proofs.Common.{not, nat_eq, ◌&&◌, ap, ◌∙◌, rules}
use Rattle.std.proofs.lemmas.List.{with_items_is, places}
use Rattle.pg_types.specs.Inside.Bits.{has_bit}
use Rattle.pg_cells.specs.Inside.store.BitSets.{has_index}
use Rattle.pg_cells.proofs.store.bit_set.BitSet.remove.Goals as goal

pub returns-clause-has : goal.returns-clause-has
unfolding has_index
returns-clause-has c = λ i.
    ap (λ bits. has_bit bits i) (with_items_is c.args.self.now.bits c.clear.new.row (search (rules, places)))
    ∙ c.clear.ensures i
    ∙ ap (λ bits. not (nat_eq i c.args.index) && has_bit bits i) c.deref_mut.ensures.value
