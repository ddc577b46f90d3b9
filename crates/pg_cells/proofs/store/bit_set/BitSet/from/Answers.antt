use Rattle.std.proofs.Common.{◌+◌, ap, ◌∙◌}
use Rattle.pg_types.specs.Inside.Bits.{has_bit}
use Rattle.pg_cells.specs.Inside.store.BitSets.{has_index}
use Rattle.pg_cells.proofs.store.bit_set.BitSet.from.Goals as goal

pub returns : goal.returns
unfolding has_index
returns c = λ j low. c.bits_from.ensures j low ∙ ap (λ bits. has_bit bits (c.args.index + j)) c.deref.ensures.value
