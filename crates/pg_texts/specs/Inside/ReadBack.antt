-- What the text of the hyphenated list is read as.
use Rattle.std.specs.Prelude.{◌≡◌, ◌≤◌, ℕ, List, length, filter, Ok}
use Rattle.pg_types.specs.declared.limits.TheConstants.{FILE_MAX}
use Rattle.pg_translate.specs.Alphabets.{Alphabet}
use Rattle.pg_dict.specs.Word.{Word}
use Rattle.pg_dict.specs.DictionaryWords.{words as words_of}
use Rattle.pg_texts.specs.PattmpTexts.{is_taking_part}

-- the words that take part
abbrev pub words_taking_part : Alphabet → List Word → List Word
words_taking_part t words = filter (is_taking_part t) words

-- a text of at most 2^26 bytes is read, under the table, as those words that take part
abbrev pub ReadsBack : Alphabet → List Word → List ℕ → Type 0
ReadsBack t words text = length text ≤ FILE_MAX → words_of t text ≡ Ok (words_taking_part t words)
