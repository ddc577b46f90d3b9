use Rattle.std.proofs.Common.{◌≡◌, ◌+◌, arith, ap, slice_index}
use Rattle.pg_table.specs.Numbers.{number_of_bytes}
use Rattle.pg_table.proofs.parts.numbers.u32_at.Goals as goal

pub returns : goal.returns
unfolding number_of_bytes
returns c =
    let first : c.args.at + 0 ≡ c.args.at = omega arith in
    omega (arith, c.from_be_bytes.ensures, ap (slice_index c.args.bytes.now) first)
