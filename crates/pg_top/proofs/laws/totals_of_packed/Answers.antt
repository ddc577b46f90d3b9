use Rattle.pg_top.proofs.theorems.PackedTotals.{totals_of_packed}
use Rattle.pg_top.proofs.laws.totals_of_packed.Goals as goal

pub returns : goal.returns
returns c = totals_of_packed
