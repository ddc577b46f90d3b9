-- Patterns as a map from dotted strings, which are signs with a dot, to values, and the value that
-- they give to a position of a word.
use Rattle.std.specs.Prelude.{ℕ, ◌+◌, ◌-◌, Bool, true, ◌&&◌, if◌then◌else◌, List, [], ◌∷◌, length, drop, max, fold, unwrap_or, nat_le, nat_eq}
use Rattle.std.specs.FinMap.Entries.{put, find}
use Rattle.std.specs.List.{starts_with}
use Rattle.pg_patterns.specs.DottedSigns.{dotted_cmp}

-- patterns, as a map from dotted strings to values, in their order
abbrev pub Patterns : Type 0
Patterns = List ((List ℕ × ℕ) × ℕ)

-- the value of a dotted string, 0 where it has none
abbrev pub value_of : Patterns → List ℕ × ℕ → ℕ
value_of P k = unwrap_or (find dotted_cmp k P) 0

-- the map with the value of k raised to v
abbrev pub raise : Patterns → List ℕ × ℕ → ℕ → Patterns
raise P k v = put dotted_cmp k (max v (value_of P k)) P

-- a list of entries as a map: equal dotted strings are joined by the greatest value
abbrev pub map_of_entries : List ((List ℕ × ℕ) × ℕ) → Patterns
map_of_entries es = fold (λ P e. raise P e.0 e.1) [] es

-- the greatest value of the entries whose dotted strings pass the test, 0 where there is none
abbrev pub greatest_value : (List ℕ × ℕ → Bool) → Patterns → ℕ
greatest_value test [] = 0
greatest_value test (e ∷ es) = max (if test e.0 then e.1 else 0) (greatest_value test es)

-- the greatest value
abbrev pub largest : Patterns → ℕ
largest P = greatest_value (λ _. true) P

-- the signs q stand in w from i on
abbrev pub stands_at : List ℕ → List ℕ → ℕ → Bool
stands_at q w i = nat_le (i + length q) (length w) && starts_with nat_eq (drop i w) q

-- the signs of k stand in w with their dot at position p
abbrev pub applies : List ℕ → ℕ → List ℕ × ℕ → Bool
applies w p k = nat_le k.1 p && stands_at k.0 w (p - k.1)

-- the value of position p of w: the greatest of the entries that apply there
abbrev pub value_at : Patterns → List ℕ → ℕ → ℕ
value_at P w p = greatest_value (applies w p) P
