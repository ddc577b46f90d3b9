use Rattle.pg_types.proofs.BitRows.{set_bit}
use Rattle.pg_types.proofs.bits.set.Goals as goal

pub returns : goal.returns
returns c = λ j. set_bit c.args.row.now c.args.i j c.requires
