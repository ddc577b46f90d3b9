-- The greatest number, and the greatest value of a list, step by step as the code finds them.
use Rattle.std.specs.Prelude.{ℕ, nat_eq, max, if◌then◌else◌, List, [], ◌∷◌}

-- the greatest value at the dot in a list, 0 where there is none
abbrev pub value_in_list : ℕ → List (ℕ × ℕ) → ℕ
value_in_list d [] = 0
value_in_list d (x ∷ xs) = max (if nat_eq x.1 d then x.0 else 0) (value_in_list d xs)

-- the greatest of the numbers that f gives
abbrev pub greatest : (ℕ → ℕ) → List ℕ → ℕ
greatest f [] = 0
greatest f (x ∷ xs) = max (f x) (greatest f xs)
