-- The strings of a map, and the line of a string, as they are written one after the other.
use Rattle.std.specs.Prelude.{ℕ, ◌+◌, if◌then◌else◌, List, [], ◌∷◌, ◌++◌, nat_eq}
use Rattle.std.specs.Cmp.Lexicographic.{pointwise}
use Rattle.pg_translate.specs.Alphabets.{Alphabet, spelling_of}
use Rattle.pg_patterns.specs.Values.{Patterns}
use Rattle.std.specs.Option.{option_map_or}
use Rattle.std.specs.FinMap.Entries.{find}
use Rattle.pg_patterns.specs.DottedSigns.{dotted_cmp}

-- strings with one more in front, unless it is the first of them already
abbrev pub with_string : List ℕ → List (List ℕ) → List (List ℕ)
with_string q [] = q ∷ []
with_string q (r ∷ rs) = if pointwise nat_eq q r then r ∷ rs else q ∷ r ∷ rs

-- the strings of the entries, one after the other
abbrev pub strings_by : Patterns → List (List ℕ)
strings_by [] = []
strings_by (e ∷ es) = with_string e.0.0 (strings_by es)

-- the digit of a dotted string, where it has a value
abbrev pub value_digit : Patterns → List ℕ × ℕ → List ℕ
value_digit P k = option_map_or (λ v. (48 + v) ∷ []) (find dotted_cmp k P) []

-- the line of a string from a dot on: at each dot its digit, and then the spelling of the sign
abbrev pub line_from : Alphabet → Patterns → List ℕ → ℕ → List ℕ → List ℕ
line_from t P q dot [] = value_digit P (q, dot) ++ 10 ∷ []
line_from t P q dot (s ∷ ss) = value_digit P (q, dot)
    ++ spelling_of t s ++ line_from t P q (dot + 1) ss
