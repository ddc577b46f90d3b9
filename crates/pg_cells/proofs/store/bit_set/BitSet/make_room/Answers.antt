use Rattle.std.proofs.Common.{◌≡◌, ◌+◌, ◌-◌, ◌/◌, ◌++◌, take, replicate, ap, ◌∙◌, arith}
use Rattle.std.proofs.lemmas.List.{take_all}
use Rattle.pg_types.specs.Inside.Bits.{has_bit}
use Rattle.pg_cells.specs.Inside.store.BitSets.{has_index}
use Rattle.pg_cells.proofs.SetRows.{longer_row}
use Rattle.pg_cells.proofs.store.bit_set.BitSet.make_room.Goals as goal

pub returns-in_err-resize-clause-same : goal.returns-in_err-resize-clause-same
unfolding has_index
returns-in_err-resize-clause-same c = λ i. ap (λ bits. has_bit bits i) c.in_err-resize.ensures.items

pub returns-in_ok-resize-clause-same : goal.returns-in_ok-resize-clause-same
unfolding has_index
returns-in_ok-resize-clause-same c = λ i.
    let old = c.args.self.now.bits in
    let count = c.args.count / 64 + 1 in
    let all : take count old.items ≡ old.items = take_all count old.items (omega arith) in
    ap (λ bits. has_bit bits i) (c.in_ok-resize.ensures.items ∙ ap (λ row. row ++ replicate (count - old.len) 0) all) ∙ longer_row old.items (count - old.len) i
