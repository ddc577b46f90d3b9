use Rattle.pg_types.proofs.BitRows.{clear_bit}
use Rattle.pg_types.proofs.bits.clear.Goals as goal

pub returns : goal.returns
returns c = λ j. clear_bit c.args.row.now c.args.i j c.requires
