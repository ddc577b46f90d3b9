use Rattle.std.proofs.Common.{ℕ, List, length, ◌*◌, ap, ◌∙◌}
use Rattle.pg_types.specs.Inside.Bits.{has_bit}
use Rattle.pg_cells.specs.Inside.store.BitSets.{has_index}
use Rattle.pg_cells.proofs.SetRows.{empty_bit}
use Rattle.pg_cells.proofs.store.bit_set.BitSet.empty.Goals as goal

pub returns : goal.returns
unfolding has_index
returns c = record {
  none = λ i. ap (λ bits. has_bit bits i) c.new.ensures.items ∙ empty_bit i;
  room = ap (λ (bits : List ℕ). 64 * length bits) c.new.ensures.items;
}
