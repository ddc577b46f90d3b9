-- How many letters spellings have, and the first spelling of each letter.
use Rattle.std.specs.Prelude.{ℕ, ◌-◌, ◌==◌, max, List, [], find, fold, Option, option_map, unwrap_or}

-- how many letters spellings have: the greatest sign less that of the edge
abbrev pub letters_in : List (ℕ × List ℕ) → ℕ
letters_in spellings = fold (λ n spelling. max n (spelling.0 - 1)) 0 spellings

-- the first spelling of a letter, where it has one
abbrev pub first_of : List (ℕ × List ℕ) → ℕ → Option (List ℕ)
first_of spellings sign = option_map (λ spelling. spelling.1)
    (find (λ spelling. spelling.0 == sign) spellings)

-- the first spelling of a letter that has one
abbrev pub first_spelling : List (ℕ × List ℕ) → ℕ → List ℕ
first_spelling spellings sign = unwrap_or (first_of spellings sign) []
