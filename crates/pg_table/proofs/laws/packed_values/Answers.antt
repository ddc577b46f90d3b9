use Rattle.pg_table.proofs.laws.PackedValues.{values_are_packed, totals_are_packed}
use Rattle.pg_table.proofs.laws.packed_values.Goals as goal

pub returns : goal.returns
returns c = record { values = values_are_packed; totals = totals_are_packed }
