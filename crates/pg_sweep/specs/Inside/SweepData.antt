-- The JSON object whose compact text the file of a sweep is.
use Rattle.std.specs.Prelude.{ℕ, List, map, codes}
use Rattle.std.specs.List.{enumerate_from}
use Rattle.serde_json.specs.Data.{Data, number, unsigned, array, object, member, no_members}
use Rattle.serde_json.specs.View.{items_of}
use Rattle.pg_sweep.specs.declared.rows.SweepRow.{SweepRow}

-- the object of a row: its members stand in the order of their names
abbrev pub row_data : ℕ → SweepRow → Data
row_data set row = object (member (codes "bad") (number (unsigned row.totals.bad)) (
    member (codes "cost") (number (unsigned row.cost)) (
    member (codes "good") (number (unsigned row.totals.good)) (
    member (codes "missed") (number (unsigned row.totals.missed)) (
    member (codes "set") (number (unsigned set)) no_members)))))

-- the objects of the rows, the first of which has this number
abbrev pub rows_data : ℕ → List SweepRow → List Data
rows_data set rows = map (λ r. row_data r.0 r.1) (enumerate_from set rows)

-- the object of a sweep
abbrev pub sweep_data : ℕ → List SweepRow → ℕ → Data
sweep_data folds rows winner = object (member (codes "folds") (number (unsigned folds)) (
    member (codes "rows") (array (items_of (rows_data 1 rows))) (
    member (codes "winner") (number (unsigned winner)) no_members)))
