-- The file of a sweep is the compact text of its JSON object, with a line feed behind it.
use Rattle.std.proofs.Common.{◌≡◌, ℕ, ◌+◌, false, true, List, [], ◌∷◌, ◌++◌, refl, sym, ap, ◌∙◌, append_assoc}
use Rattle.std.specs.Prelude.{flat_map, fold, codes, decimal}
use Rattle.std.specs.Fmt.{digits}
use Rattle.std.specs.List.{concat, enumerate_from, join_by}
use Rattle.std.proofs.lemmas.List.{append-nil}
use Rattle.serde_json.specs.View.{items_of}
use Rattle.serde_json.specs.Written.{compact_text, items_text}
use Rattle.json.specs.Print.{escape_byte}
use Rattle.pg_sweep.specs.declared.rows.SweepRow.{SweepRow}
use Rattle.pg_sweep.specs.Files.{row_text, sweep_file}
use Rattle.pg_sweep.specs.Inside.SweepData.{row_data, rows_data, sweep_data}

-- texts that are appended one by one
joined : (text : List ℕ) (parts : List (List ℕ)) → fold (λ a b. a ++ b) text parts ≡ text ++ concat parts
joined text [] = sym (append-nil text)
joined text (part ∷ parts) = joined (text ++ part) parts ∙ append_assoc text part (concat parts)

-- the text of a row
row_written : (set : ℕ) (row : SweepRow) → compact_text (row_data set row) ≡ row_text (set, row)
unfolding escape_byte
row_written set row = sym (joined (codes "{\"bad\":") (decimal row.totals.bad ∷ codes ",\"cost\":" ∷ decimal row.cost ∷ codes ",\"good\":" ∷ decimal row.totals.good
    ∷ codes ",\"missed\":" ∷ decimal row.totals.missed ∷ codes ",\"set\":" ∷ decimal set ∷ codes "}" ∷ []))

-- the texts of the rows behind the first
more_written : (set : ℕ) (rows : List SweepRow) → items_text true (items_of (rows_data set rows)) ≡ flat_map (λ r. codes "," ++ row_text r) (enumerate_from set rows) ++ 93 ∷ []
more_written set [] = refl
more_written set (row ∷ rows) =
    ap (λ text. 44 ∷ (text ++ items_text true (items_of (rows_data (set + 1) rows)))) (row_written set row)
    ∙ ap (λ rest. 44 ∷ (row_text (set, row) ++ rest)) (more_written (set + 1) rows)
    ∙ ap (λ rest. 44 ∷ rest) (sym (append_assoc (row_text (set, row)) (flat_map (λ r. codes "," ++ row_text r) (enumerate_from (set + 1) rows)) (93 ∷ [])))

-- the texts of all rows
rows_written : (set : ℕ) (rows : List SweepRow) → items_text false (items_of (rows_data set rows)) ≡ join_by row_text (codes ",") (enumerate_from set rows) ++ 93 ∷ []
rows_written set [] = refl
rows_written set (row ∷ rows) =
    ap (λ text. text ++ items_text true (items_of (rows_data (set + 1) rows))) (row_written set row)
    ∙ ap (λ rest. row_text (set, row) ++ rest) (more_written (set + 1) rows)
    ∙ sym (append_assoc (row_text (set, row)) (flat_map (λ r. codes "," ++ row_text r) (enumerate_from (set + 1) rows)) (93 ∷ []))

-- the object, where the rows have this text with the bracket behind it
abbrev object_with : ℕ → ℕ → List ℕ → List ℕ
object_with folds winner rows = codes "{\"folds\":" ++ (decimal folds ++ (codes ",\"rows\":[" ++ (rows ++ (codes ",\"winner\":" ++ (decimal winner ++ codes "}")))))

object_written : (folds : ℕ) (rows : List SweepRow) (winner : ℕ) → compact_text (sweep_data folds rows winner) ≡ object_with folds winner (items_text false (items_of (rows_data 1 rows)))
unfolding escape_byte
object_written folds rows winner = refl

pub file_written : (folds : ℕ) (rows : List SweepRow) (winner : ℕ) → compact_text (sweep_data folds rows winner) ++ 10 ∷ [] ≡ sweep_file folds rows winner
file_written folds rows winner =
    let all : List ℕ = join_by row_text (codes ",") (enumerate_from 1 rows) in
    let front : List ℕ = codes "{\"folds\":" ++ decimal folds ++ codes ",\"rows\":[" ++ all ++ codes "],\"winner\":" ++ decimal winner in
    let is : compact_text (sweep_data folds rows winner) ≡ front ++ codes "}" = object_written folds rows winner
    ∙ ap (object_with folds winner) (rows_written 1 rows)
    ∙ ap (λ rest. codes "{\"folds\":" ++ (decimal folds ++ (codes ",\"rows\":[" ++ rest))) (append_assoc all (93 ∷ []) (codes ",\"winner\":" ++ (decimal winner ++ codes "}")))
    ∙ sym (joined (codes "{\"folds\":") (decimal folds ∷ codes ",\"rows\":[" ∷ all ∷ codes "],\"winner\":" ∷ decimal winner ∷ codes "}" ∷ [])) in
    ap (λ text. text ++ 10 ∷ []) is ∙ append_assoc front (codes "}") (10 ∷ [])

-- a file with one row
one_row : sweep_file 2 (record { totals = record { good = 7; bad = 1; missed = 20 }; cost = 41 } ∷ []) 1
    ≡ codes "{\"folds\":2,\"rows\":[{\"bad\":1,\"cost\":41,\"good\":7,\"missed\":20,\"set\":1}],\"winner\":1}\n"
unfolding digits
one_row = refl
