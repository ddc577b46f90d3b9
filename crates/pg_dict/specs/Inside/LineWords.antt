-- What one line of a dictionary gives, and lines that are read one after the other.
use Rattle.std.specs.Prelude.{ℕ, ◌+◌, List, [], ◌∷◌, slice_index_or, Option, None, Some, Result, Ok, Err}
use Rattle.std.specs.Option.{option_to_list}
use Rattle.pg_types.specs.declared.refusals.Refusal.{Refusal}
use Rattle.pg_types.specs.Inside.reading.Parts.{both_parts}
use Rattle.pg_translate.specs.declared.items.Place.TheVariants.{Dictionary}
use Rattle.pg_translate.specs.Alphabets.{Alphabet}
use Rattle.pg_translate.specs.Tokens.{Token}
use Rattle.pg_translate.specs.Gaps.{signs_of, gaps, last_number}
use Rattle.pg_translate.specs.Inside.items.Refusing.{of_line}
use Rattle.pg_dict.specs.Word.{Word}
use Rattle.pg_dict.specs.DictionaryWords.{word_of_items}

-- the word weight of a line: the last number before its first letter, else that of the line before
abbrev pub word_weight : ℕ → List Token → ℕ
word_weight before items = last_number before (slice_index_or (gaps items) 0 [])

-- a line gives at most one word, and a word weight for the lines below it
pub record LineWord : Type 0 where
  pub word : Option Word
  pub weight : ℕ

-- a line without a letter has no word
abbrev pub word_if : List ℕ → Word → Option Word
word_if [] word = None
word_if (sign ∷ signs) word = Some word

-- what a line of these items gives, below a line with this word weight
abbrev pub line_word : ℕ → List Token → LineWord
line_word before items =
    record {
      word = word_if (signs_of items) (word_of_items (word_weight before items) items);
      weight = word_weight before items;
    }

-- what a line gives, or its refusal
abbrev pub line_reading : Alphabet → ℕ → ℕ → List ℕ → Result LineWord Refusal
line_reading t line weight text = of_line (line_word weight) t Dictionary line text

-- what follows a line, from what the line gives
abbrev pub on_line : (LineWord → Result (List Word) Refusal)
    → Result LineWord Refusal → Result (List Word) Refusal
on_line more (Ok l) = both_parts (Ok (option_to_list l.word)) (more l)
on_line more (Err r) = Err r

-- the words of lines that begin with this line number and word weight
abbrev pub words_from : Alphabet → ℕ → ℕ → List (List ℕ) → Result (List Word) Refusal
words_from t line weight [] = Ok []
words_from t line weight (l ∷ ls) = on_line (λ (l : LineWord). words_from t (line + 1) l.weight ls)
    (line_reading t line weight l)
