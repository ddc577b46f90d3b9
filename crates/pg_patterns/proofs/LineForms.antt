-- The line of a string, from one dot to the next.
use Rattle.std.proofs.Common.{◌≡◌, ℕ, ◌+◌, List, [], ◌∷◌, ◌++◌, map, flat_map, ap}
use Rattle.std.specs.List.{enumerate_from}
use Rattle.std.proofs.lemmas.List.{append-nil}
use Rattle.pg_translate.specs.Alphabets.{Alphabet, spelling_of}
use Rattle.pg_patterns.specs.Values.{Patterns}
use Rattle.pg_patterns.specs.Inside.PatternLines.{value_digit, line_from}

pub line_as : (t : Alphabet) (P : Patterns) (q : List ℕ) (dot : ℕ) (ss : List ℕ)
    → flat_map (λ d. value_digit P (q, d.0) ++ d.1) (enumerate_from dot (map (spelling_of t) ss ++ (10 ∷ []) ∷ [])) ≡ line_from t P q dot ss
line_as t P q dot [] = append-nil (value_digit P (q, dot) ++ 10 ∷ [])
line_as t P q dot (s ∷ ss) = ap (λ rest. value_digit P (q, dot) ++ spelling_of t s ++ rest) (line_as t P q (dot + 1) ss)
