-- The open positions of a level, in the order of words and positions.
use Rattle.std.specs.Prelude.{◌≡◌, ℕ, ◌+◌, ◌<◌, Bool, false, List, [], ◌∷◌, ◌++◌, length, map, slice_get, Option, Some}
use Rattle.std.specs.Option.{option_map_or}
use Rattle.pg_translate.specs.Alphabets.{Alphabet}
use Rattle.pg_translate.specs.Reach.{positions}
use Rattle.pg_dict.specs.Word.{Word}
use Rattle.pg_select.specs.declared.pass.Pass.{Pass}
use Rattle.pg_select.specs.Inside.words.PositionLists.{CountedPosition}
use Rattle.pg_select.specs.Statuses.{position_weight}
use Rattle.pg_select.specs.Windows.{window}
use Rattle.pg_driver.specs.declared.pass_windows.WordPosition.{WordPosition}
use Rattle.pg_select.specs.Inside.laws.ClosedDots.{counted_with}

-- the positions in reach of words, each with the number of its word, from a number on
abbrev pub numbered_positions : Alphabet → ℕ → List Word → List (ℕ × ℕ)
numbered_positions m n [] = []
numbered_positions m n (w ∷ words) = map (λ p. (n, p)) (positions m.left m.right (length w.signs))
    ++ numbered_positions m (n + 1) words

-- what a position has among the listed ones: nothing, or itself
abbrev pub open_with : (ℕ → ℕ → Option Bool) → ℕ × ℕ → List WordPosition
open_with listed s = option_map_or (λ _. record { word = s.0; at = s.1 } ∷ []) (listed s.0 s.1) []

-- what a pass counts at an open position of a word
abbrev pub counted_in : Pass → Word → ℕ → List CountedPosition
counted_in pass w p = let u = window w.signs p pass.len pass.dot in option_map_or
    (λ good. record { window = u; good = good; weight = position_weight w p } ∷ [])
    (counted_with pass.level w p pass.len pass.dot false) []

-- what a pass counts at an open position that is given with the number of its word
abbrev pub counted_of : Pass → List Word → WordPosition → List CountedPosition
counted_of pass words e = option_map_or
    (λ w. counted_in pass w e.at) (slice_get words e.word) []

-- an open position stands in one of the words
pub record IsInWord (words : List Word) (e : WordPosition) : Type 0 where
  pub word : e.word < length words
  pub within : (w : Word) → slice_get words e.word ≡ Some w → e.at < length w.signs
