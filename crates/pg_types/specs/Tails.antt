-- How many records the outputs of the patterns need where equal lists share them.
use Rattle.std.specs.Prelude.{ℕ, ◌&&◌, Bool, nat_eq, List, [], ◌∷◌, map, filter}
use Rattle.std.specs.List.{flat_map}
use Rattle.std.specs.Cmp.Lexicographic.{pointwise}
use Rattle.std.specs.Set.{distinct_count}

-- the outputs of the string q: its (dot, value) by rising dot
abbrev pub outputs_of : List ((List ℕ × ℕ) × ℕ) → List ℕ → List (ℕ × ℕ)
outputs_of patterns q = map (λ e. (e.0.1, e.1)) (filter (λ e. pointwise nat_eq q e.0.0) patterns)

-- the non-empty suffixes of a list
abbrev pub suffixes : List (ℕ × ℕ) → List (List (ℕ × ℕ))
suffixes [] = []
suffixes (x ∷ xs) = (x ∷ xs) ∷ suffixes xs

-- whether two pairs of a dot and a value are equal
abbrev pub same_pair : ℕ × ℕ → ℕ × ℕ → Bool
same_pair x y = nat_eq x.0 y.0 && nat_eq x.1 y.1

-- the number of distinct non-empty suffixes of the outputs of all strings
abbrev pub tails : List ((List ℕ × ℕ) × ℕ) → ℕ
tails patterns = distinct_count (pointwise same_pair)
    (flat_map (λ e. suffixes (outputs_of patterns e.0.0)) patterns)
