-- What a table holds, and its parts.
use Rattle.std.specs.Prelude.{ℕ, ◌-◌, ◌==◌, max, List, [], if◌then◌else◌, find, fold, codes, option_map, unwrap_or}
use Rattle.pg_types.specs.declared.limits.TheConstants.{EDGE}

-- the minima, the four bytes of marks, and the spellings with their signs, in the order of the file
pub record Alphabet : Type 0 where
  pub left : ℕ
  pub right : ℕ
  pub marks : List ℕ
  pub spellings : List (ℕ × List ℕ)

-- the number of letters: the greatest sign less that of the edge
abbrev pub letters_of : Alphabet → ℕ
letters_of t = fold (λ n spelling. max n (spelling.0 - 1)) 0 t.spellings

-- what stands for a sign in a text: the first spelling of a letter, and a dot for the edge
abbrev pub spelling_of : Alphabet → ℕ → List ℕ
spelling_of t sign = if sign == EDGE then codes "." else unwrap_or (option_map
    (λ spelling. spelling.1) (find (λ spelling. spelling.0 == sign) t.spellings)) []
