-- Where the entries of a map stand: the numbers of the positions at which they apply.
use Rattle.std.specs.Prelude.{ℕ, ◌+◌, Bool, if◌then◌else◌, List, [], ◌∷◌, map}
use Rattle.pg_patterns.specs.Values.{Patterns, applies}
use Rattle.pg_prune.specs.Inside.positions.PositionInReach.{PositionInReach}

-- the numbers of the elements that pass a test, where the first has this number
abbrev pub numbers_of : (PositionInReach → Bool) → ℕ → List PositionInReach → List ℕ
numbers_of test number [] = []
numbers_of test number (x ∷ xs) = if test x then number ∷ numbers_of test (number + 1) xs
    else numbers_of test (number + 1) xs

-- whether an entry stands at a position
abbrev pub stands : (List ℕ × ℕ) × ℕ → PositionInReach → Bool
stands e x = applies x.1 x.0.position e.0

-- the numbers of the positions at which an entry stands, counted from 0
abbrev pub positions_of_entry : List PositionInReach → (List ℕ × ℕ) × ℕ → List ℕ
positions_of_entry positions e = numbers_of (stands e) 0 positions

-- the numbers of the positions at which an entry stands, for each entry of a map
abbrev pub positions_of_entries : List PositionInReach → Patterns → List (List ℕ)
positions_of_entries positions P = map (positions_of_entry positions) P
