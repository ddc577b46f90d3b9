use Rattle.std.proofs.Common.{◌≡◌, map, take}
use Rattle.serde_json.specs.View.{view}
use Rattle.pg_sweep.specs.Inside.SweepData.{rows_data}
use Rattle.pg_sweep.proofs.text.row_values.Given as goal

abbrev pub invariant-rows : goal.invariant-rows
invariant-rows l = map view l.values.items ≡ rows_data 1 (take l.i l.rows)
