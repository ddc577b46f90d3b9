-- The winner among costs, found in one walk.
use Rattle.std.specs.Prelude.{ℕ, ◌+◌, nat_lt, if◌then◌else◌, List, [], ◌∷◌}

-- the winner among all costs: among those before these it is `best`, which costs `least`. The first
-- of these has this number
abbrev pub winner_from : ℕ → ℕ → ℕ → List ℕ → ℕ
winner_from best least number [] = best
winner_from best least number (cost ∷ costs) =
    winner_from (if nat_lt cost least then number else best)
    (if nat_lt cost least then cost else least) (number + 1) costs

-- the winner: the least number, counted from 1, whose cost is least
abbrev pub first_least : List ℕ → ℕ
first_least [] = 0
first_least (cost ∷ costs) = winner_from 1 cost 2 costs
