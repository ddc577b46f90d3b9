-- The text of a pattern file.
use Rattle.std.specs.Prelude.{ℕ, ◌+◌, List, [], ◌∷◌, ◌++◌, map, nat_eq, flat_map}
use Rattle.std.specs.Option.{option_map_or}
use Rattle.std.specs.List.{dedup, enumerate_from}
use Rattle.std.specs.FinMap.Entries.{find}
use Rattle.std.specs.Cmp.Lexicographic.{pointwise}
use Rattle.pg_translate.specs.Alphabets.{Alphabet, spelling_of}
use Rattle.pg_patterns.specs.Values.{Patterns}
use Rattle.pg_patterns.specs.DottedSigns.{dotted_cmp}

-- the strings of the entries, in their order, each once; the entries of a string stand together
abbrev pub strings_of : Patterns → List (List ℕ)
strings_of P = dedup (pointwise nat_eq) (map (λ e. e.0.0) P)

-- the line of a string: at each dot the digit of its value, where it has one, and then the spelling
-- of the sign, or the line's end
abbrev pub pattern_line : Alphabet → Patterns → List ℕ → List ℕ
pattern_line t P q = flat_map (λ d. option_map_or (λ v. (48 + v) ∷ []) (find dotted_cmp (q, d.0) P)
    [] ++ d.1) (enumerate_from 0 (map (spelling_of t) q ++ (10 ∷ []) ∷ []))

-- the text of a map: a line for each of its strings
abbrev pub pattern_text : Alphabet → Patterns → List ℕ
pattern_text t P = flat_map (pattern_line t P) (strings_of P)
