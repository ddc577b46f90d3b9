-- A part of a list of words, word by word.
use Rattle.std.specs.Prelude.{ℕ, ◌+◌, ◌%◌, ◌==◌, Bool, not, if◌then◌else◌, List, [], ◌∷◌}
use Rattle.pg_dict.specs.Word.{Word}

-- a fold has the numbers with this remainder; a part is a fold, or what is outside of it
abbrev pub is_in_part : ℕ → ℕ → Bool → ℕ → Bool
is_in_part folds fold inside number = if inside then number % folds == fold
    else not (number % folds == fold)

-- the words of a part, of a list whose first word has this number
abbrev pub part_from : ℕ → ℕ → Bool → ℕ → List Word → List Word
part_from folds fold inside number [] = []
part_from folds fold inside number (w ∷ words) =
    if is_in_part folds fold inside number then w ∷ part_from folds fold inside (number + 1) words
    else part_from folds fold inside (number + 1) words
