-- What is read of lines, as words and a word weight.
use Rattle.std.specs.Prelude.{ℕ, ◌+◌, ◌*◌, ◌≤◌, List, ◌++◌, length, Result, Ok, Err}
use Rattle.std.specs.Option.{option_to_list}
use Rattle.pg_types.specs.declared.refusals.Refusal.{Refusal}
use Rattle.pg_dict.specs.Word.{Word}
use Rattle.pg_dict.specs.Inside.LineWords.{LineWord}
use Rattle.pg_dict.specs.declared.store.Store.{Store}
use Rattle.pg_dict.specs.Inside.Store.{stored_words}

-- words, and the word weight for the lines below them
pub record Entries : Type 0 where
  pub words : List Word
  pub weight : ℕ

-- words, and behind them what a line gives
abbrev pub with_word : List Word → Result LineWord Refusal → Result Entries Refusal
with_word words (Ok l) = Ok (record { words = words ++ option_to_list l.word; weight = l.weight })
with_word words (Err r) = Err r

-- what a store holds, with a word weight
abbrev pub entries_of : Store → ℕ → Entries
entries_of s weight = record { words = stored_words s; weight = weight }

-- the signs of a store grow by at most the n bytes that were read, and two edges for each word more
abbrev pub GrowsBy : ℕ → Store → Store → Type 0
GrowsBy n old new = length new.signs.items + 2 * length old.words.items ≤ length old.signs.items
    + n + 2 * length new.words.items
