-- The object of a sweep has no number that is a float.
use Rattle.std.proofs.Common.{◌≡◌, ℕ, ◌+◌, false, List, [], ◌∷◌, refl, ap}
use Rattle.std.specs.Prelude.{◌||◌}
use Rattle.serde_json.specs.View.{items_of}
use Rattle.serde_json.specs.Written.{has_float, items_have_float}
use Rattle.pg_sweep.specs.declared.rows.SweepRow.{SweepRow}
use Rattle.pg_sweep.specs.Inside.SweepData.{sweep_data, rows_data}

-- neither do the objects of its rows
rows_no_float : (set : ℕ) (rows : List SweepRow) → items_have_float (items_of (rows_data set rows)) ≡ false
rows_no_float set [] = refl
rows_no_float set (row ∷ rows) = rows_no_float (set + 1) rows

pub sweep_no_float : (folds : ℕ) (rows : List SweepRow) (winner : ℕ) → has_float (sweep_data folds rows winner) ≡ false
sweep_no_float folds rows winner = ap (λ b. b || false) (rows_no_float 1 rows)
