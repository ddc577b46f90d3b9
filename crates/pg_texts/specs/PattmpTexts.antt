-- The text of the hyphenated list.
use Rattle.std.specs.Prelude.{ℕ, ◌-◌, ◌==◌, nat_eq, nat_lt, Bool, if◌then◌else◌, List, [], ◌∷◌, ◌++◌, length, filter, is_some, slice_index, codes, decimal}
use Rattle.std.specs.List.{flat_map, list_any, range_with_len}
use Rattle.pg_types.specs.declared.marks.Mark.{Mark}
use Rattle.pg_types.specs.declared.marks.Mark.TheVariants.{Nothing, Error, Missed, Found, DontCare}
use Rattle.pg_translate.specs.Alphabets.{Alphabet, spelling_of}
use Rattle.pg_translate.specs.Reach.{reach, positions}
use Rattle.pg_dict.specs.Word.{Word}
use Rattle.pg_patterns.specs.Values.{Patterns}
use Rattle.pg_select.specs.Statuses.{status_at, status_with, position_weight}

-- whether a word takes part: it has positions in reach
abbrev pub is_taking_part : Alphabet → Word → Bool
is_taking_part t w = is_some (reach t.left t.right (length w.signs))

-- the byte of a status; nothing has none
abbrev pub mark_text : Alphabet → Mark → List ℕ
mark_text t Nothing = []
mark_text t Error = slice_index t.marks 0 ∷ []
mark_text t Missed = slice_index t.marks 1 ∷ []
mark_text t Found = slice_index t.marks 2 ∷ []
mark_text t DontCare = slice_index t.marks 3 ∷ []

-- a weight where it differs from another: a digit, or a greater number in braces
abbrev pub weight_text : ℕ → ℕ → List ℕ
weight_text other weight = if weight == other then [] else (if nat_lt weight 10 then decimal weight
    else codes "{" ++ decimal weight ++ codes "}")

-- a position between two letters: its mark, its weight where it differs, and the letter behind it
abbrev pub position_text : Alphabet → (ℕ → Mark) → Word → ℕ → List ℕ
position_text t marks w p = mark_text t (marks p) ++ weight_text w.weight (position_weight w p)
    ++ spelling_of t (slice_index w.signs p)

-- a word of n letters with these marks: its first letter, and then the positions 2 to n
abbrev pub word_text : Alphabet → (ℕ → Mark) → Word → List ℕ
word_text t marks w = spelling_of t (slice_index w.signs 1)
    ++ flat_map (position_text t marks w) (range_with_len 2 (length w.signs - 3)) ++ codes "\n"

-- the status of a position: in reach by the value of the patterns, out of reach as by the value 0
abbrev pub statuses : Alphabet → Patterns → Word → ℕ → Mark
statuses t P w p = if list_any (nat_eq p) (positions t.left t.right (length w.signs))
    then status_at P w p else status_with w p 0

-- a line for each word, behind this word weight: its own weight where it differs, and the word
abbrev pub lines_behind : Alphabet → Patterns → ℕ → List Word → List ℕ
lines_behind t P weight [] = []
lines_behind t P weight (w ∷ ws) = weight_text weight w.weight
    ++ word_text t (statuses t P w) w ++ lines_behind t P w.weight ws

-- the list: a line for each word that takes part
abbrev pub pattmp_text : Alphabet → Patterns → List Word → List ℕ
pattmp_text t P words = lines_behind t P 1 (filter (is_taking_part t) words)
