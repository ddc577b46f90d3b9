use Rattle.std.proofs.Common.{◌/◌, arith}
use Rattle.pg_types.proofs.BitRows.{from_bit}
use Rattle.pg_types.proofs.bits.bits_from.Goals as goal

pub returns : goal.returns
returns c = λ j low.
    let numbers = c.numbers_at-here.ensures in
    from_bit c.args.row.now c.args.i j c.numbers_at-here.result.0 c.numbers_at-here.result.1 numbers.here numbers.next
    (omega (arith, numbers.here, c.type_inv.row (c.args.i / 64))) low
