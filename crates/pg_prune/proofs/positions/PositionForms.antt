-- The positions in reach of words, one word after the other, are all positions.
use Rattle.std.proofs.Common.{◌≡◌, ℕ, ◌+◌, List, [], ◌∷◌, ◌++◌, flat_map, refl, ap}
use Rattle.std.specs.List.{enumerate_from}
use Rattle.pg_translate.specs.Alphabets.{Alphabet}
use Rattle.pg_dict.specs.Word.{Word}
use Rattle.pg_prune.specs.Positions.{positions_in_reach}
use Rattle.pg_prune.specs.Inside.positions.PositionInReach.{PositionInReach}
use Rattle.pg_prune.specs.Inside.positions.WordPositions.{positions_in, positions_from}

from_as : (m : Alphabet) (number : ℕ) (ws : List Word) → positions_from m number ws ≡ flat_map (λ w. positions_in m w.0 w.1) (enumerate_from number ws)
from_as m number [] = refl
from_as m number (w ∷ ws) = ap (λ (xs : List PositionInReach). positions_in m number w ++ xs) (from_as m (number + 1) ws)

pub positions_as : (m : Alphabet) (ws : List Word) → positions_from m 1 ws ≡ positions_in_reach m ws
unfolding positions_in_reach
positions_as m ws = from_as m 1 ws
