-- The open positions from a level's start through its passes and lengths, as the code changes them.
use Rattle.std.specs.Prelude.{ℕ, ◌+◌, Bool, List, [], ◌∷◌, ◌++◌, length, Option}
use Rattle.std.specs.List.{flat_map}
use Rattle.std.specs.Option.{option_map_or}
use Rattle.pg_translate.specs.Alphabets.{Alphabet}
use Rattle.pg_translate.specs.Reach.{positions}
use Rattle.pg_dict.specs.Word.{Word}
use Rattle.pg_driver.specs.declared.pass_windows.WordPosition.{WordPosition}

-- position p of the word with the number n, where it counts; else nothing
abbrev pub open_as : ℕ → ℕ → Option Bool → List WordPosition
open_as n p good = option_map_or (λ _. record { word = n; at = p } ∷ []) good []

-- the positions in reach of the word with the number n that count as `counts` says
abbrev pub listed_in : Alphabet → (Word → ℕ → Option Bool) → ℕ → Word → List WordPosition
listed_in m counts n w = flat_map (λ p. open_as n p (counts w p))
    (positions m.left m.right (length w.signs))

-- the positions in reach of words that count as `counts` says; the first word has the number n
abbrev pub listed_from : Alphabet → (Word → ℕ → Option Bool) → ℕ → List Word → List WordPosition
listed_from m counts n [] = []
listed_from m counts n (w ∷ words) = listed_in m counts n w ++ listed_from m counts (n + 1) words
