-- The first false line of a file.
use Rattle.std.specs.Prelude.{ℕ, ◌+◌, if◌then◌else◌, List, [], ◌∷◌, Option, None, Some}
use Rattle.std.specs.List.{onto_first}
use Rattle.std.specs.Str.{bytes_eq}
use Rattle.pg_types.specs.Lines.{is_line_feed}

-- the lines of a file, each with its line feed and with its CR
abbrev pub whole_lines : List ℕ → List (List ℕ)
whole_lines [] = []
whole_lines (b ∷ bs) = if is_line_feed b then (b ∷ []) ∷ whole_lines bs
    else onto_first b (whole_lines bs)

-- where the lines differ from number `line` on: the number of the first line that does, and the
-- given line there, empty where it is missing
abbrev pub difference_from : ℕ → List (List ℕ) → List (List ℕ) → Option (ℕ × List ℕ)
difference_from line [] [] = None
difference_from line [] (wanted ∷ rest) = Some (line, [])
difference_from line (given ∷ rest) [] = Some (line, given)
difference_from line (given ∷ after) (wanted ∷ rest) = if bytes_eq given wanted
    then difference_from (line + 1) after rest else Some (line, given)

-- the first false line of a given file: its number, from 1, and what stands there
abbrev pub first_false : List ℕ → List ℕ → Option (ℕ × List ℕ)
first_false given wanted = difference_from 1 (whole_lines given) (whole_lines wanted)
