use Rattle.std.proofs.Common.{◌≡◌, replicate, ap, ◌∙◌}
use Rattle.pg_types.specs.Inside.Bits.{has_bit}
use Rattle.pg_cells.specs.Inside.store.BitSets.{has_index}
use Rattle.pg_cells.proofs.SetRows.{clear_row}
use Rattle.pg_cells.proofs.store.bit_set.BitSet.clear.Goals as goal

pub returns-clause-none : goal.returns-clause-none
unfolding has_index
returns-clause-none c = λ i.
    let count = c.args.self.now.bits.len in
    let items : c.fill.new.self.items ≡ replicate count 0 = c.fill.ensures.items (λ y is. is) in
    ap (λ bits. has_bit bits i) items ∙ clear_row count i
