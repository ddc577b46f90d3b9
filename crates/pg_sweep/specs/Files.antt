-- The file of a sweep, which is one JSON object.
use Rattle.std.specs.Prelude.{ℕ, List, ◌++◌, codes, decimal}
use Rattle.std.specs.List.{enumerate_from, join_by}
use Rattle.pg_sweep.specs.declared.rows.SweepRow.{SweepRow}

-- the object of a row with its number
abbrev pub row_text : ℕ × SweepRow → List ℕ
row_text r = codes "{\"bad\":" ++ decimal r.1.totals.bad ++ codes ",\"cost\":" ++ decimal r.1.cost
    ++ codes ",\"good\":" ++ decimal r.1.totals.good ++ codes ",\"missed\":"
    ++ decimal r.1.totals.missed ++ codes ",\"set\":" ++ decimal r.0 ++ codes "}"

-- the file: the number of folds, the rows, which have the numbers from 1 on, and the winner
abbrev pub sweep_file : ℕ → List SweepRow → ℕ → List ℕ
sweep_file folds rows winner = codes "{\"folds\":" ++ decimal folds ++ codes ",\"rows\":["
    ++ join_by row_text (codes ",") (enumerate_from 1 rows)
    ++ codes "],\"winner\":" ++ decimal winner ++ codes "}\n"
