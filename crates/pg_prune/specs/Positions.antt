-- The positions that pruning compares: those in reach of the words that take part.
use Rattle.std.specs.Prelude.{ℕ, List, length, map, flat_map}
use Rattle.std.specs.List.{enumerate_from}
use Rattle.pg_translate.specs.Alphabets.{Alphabet}
use Rattle.pg_translate.specs.Reach.{positions}
use Rattle.pg_dict.specs.Word.{Word}
use Rattle.pg_prune.specs.declared.pruned.Need.{Need}

-- the positions in reach of words, which are numbered from 1, each with the signs of its word
unfoldable pub positions_in_reach : Alphabet → List Word → List (Need × List ℕ)
positions_in_reach m words = flat_map (λ w. map
    (λ p. (record { word = w.0; position = p }, w.1.signs))
    (positions m.left m.right (length w.1.signs))) (enumerate_from 1 words)
