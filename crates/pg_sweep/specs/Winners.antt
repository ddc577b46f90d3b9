-- The winner among costs.
use Rattle.std.specs.Prelude.{ℕ, ◌+◌, nat_le, List, position}
use Rattle.std.specs.List.{list_all}
use Rattle.std.specs.Option.{option_map_or}

-- the winner: the number, counted from 1, of the first cost that is no greater than any
abbrev pub winner_of : List ℕ → ℕ
winner_of costs = option_map_or (λ i. i + 1) (position (λ c. list_all (nat_le c) costs) costs) 0
