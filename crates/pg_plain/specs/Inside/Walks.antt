-- The entries that apply in a word, from string to string.
use Rattle.std.specs.Prelude.{ℕ, ◌+◌, ◌-◌, Bool, not, ◌&&◌, nat_le, nat_eq, List, length}
use Rattle.std.specs.List.{starts_with}
use Rattle.std.specs.Cmp.Lexicographic.{pointwise}
use Rattle.pg_patterns.specs.Values.{stands_at, applies}

-- the signs of k are q, which stand in a word from i on, and its dot is at position p
abbrev pub has_signs_at : List ℕ → ℕ → ℕ → List ℕ × ℕ → Bool
has_signs_at q i p k = pointwise nat_eq k.0 q && nat_eq (i + k.1) p

-- the string r begins with q and is longer
abbrev pub is_extension : List ℕ → List ℕ → Bool
is_extension q r = starts_with nat_eq r q && not (pointwise nat_eq r q)

-- the signs of k stand in w from i on, with its dot at position p
abbrev pub applies_from : List ℕ → ℕ → ℕ → List ℕ × ℕ → Bool
applies_from w i p k = nat_eq (i + k.1) p && stands_at k.0 w i

-- k has n signs or more, which stand in w from i on, with its dot at position p
abbrev pub applies_from_at_least : List ℕ → ℕ → ℕ → ℕ → List ℕ × ℕ → Bool
applies_from_at_least w i n p k = applies_from w i p k && nat_le n (length k.0)

-- the signs of k stand in w with the dot at position p, and not before i
abbrev pub applies_not_before : List ℕ → ℕ → ℕ → List ℕ × ℕ → Bool
applies_not_before w i p k = applies w p k && nat_le i (p - k.1)
