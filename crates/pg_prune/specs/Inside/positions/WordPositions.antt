-- The positions in reach of words, one word after the other.
use Rattle.std.specs.Prelude.{ℕ, ◌+◌, List, [], ◌∷◌, ◌++◌, length, map}
use Rattle.pg_translate.specs.Alphabets.{Alphabet}
use Rattle.pg_translate.specs.Reach.{positions}
use Rattle.pg_dict.specs.Word.{Word}
use Rattle.pg_prune.specs.Inside.positions.PositionInReach.{PositionInReach}

-- the positions in reach of the word with this number
abbrev pub positions_in : Alphabet → ℕ → Word → List PositionInReach
positions_in m number w = map (λ p. (record { word = number; position = p }, w.signs))
    (positions m.left m.right (length w.signs))

-- the positions in reach of words, the first of which has this number
abbrev pub positions_from : Alphabet → ℕ → List Word → List PositionInReach
positions_from m number [] = []
positions_from m number (w ∷ ws) = positions_in m number w ++ positions_from m (number + 1) ws
