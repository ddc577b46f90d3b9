-- A part of a list of words, by the numbers of the words.
use Rattle.std.specs.Prelude.{ℕ, ◌%◌, ◌==◌, Bool, not, if◌then◌else◌, List, map, filter}
use Rattle.std.specs.List.{enumerate_from}
use Rattle.pg_dict.specs.Word.{Word}

-- the words of a part, counted from 0: a fold has the numbers with this remainder, and a part is a
-- fold, or what is outside of it
abbrev pub part_of : ℕ → ℕ → Bool → List Word → List Word
part_of folds fold inside words = map (λ w. w.1) (filter (λ w. if inside
    then w.0 % folds == fold else not (w.0 % folds == fold)) (enumerate_from 0 words))
