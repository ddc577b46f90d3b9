-- A line read item by item, with the last mark and the last number so far. It gives the words that
-- DictionaryWords defines by gaps.
use Rattle.std.specs.Prelude.{ℕ, List, [], ◌∷◌, None, Some}
use Rattle.pg_types.specs.declared.limits.TheConstants.{EDGE}
use Rattle.pg_types.specs.declared.marks.Mark.{Mark}
use Rattle.pg_types.specs.declared.marks.Mark.TheVariants.{Nothing}
use Rattle.pg_translate.specs.Tokens.{Token, Letter, Digit, Weight, Marked, Edge}
use Rattle.pg_dict.specs.Inside.Lines.PositionedSigns.{PositionedSign, positioned_sign}
use Rattle.pg_dict.specs.Inside.SoundWords.{word_of_signs}
use Rattle.pg_dict.specs.Inside.LineWords.{LineWord}

-- the signs behind a letter with the positions before them, up to the last edge
abbrev pub signs_behind : ℕ → Mark → ℕ → List Token → List PositionedSign
signs_behind weight mark number [] = positioned_sign Nothing weight EDGE ∷ []
signs_behind weight mark number (Letter s ∷ items) =
    positioned_sign mark number s ∷ signs_behind weight Nothing weight items
signs_behind weight mark number (Digit n ∷ items) = signs_behind weight mark n items
signs_behind weight mark number (Weight n ∷ items) = signs_behind weight mark n items
signs_behind weight mark number (Marked m ∷ items) = signs_behind weight m number items
signs_behind weight mark number (Edge ∷ items) =
    positioned_sign mark number EDGE ∷ signs_behind weight Nothing weight items

-- the signs of a word with the positions before them: the edge, the first letter, and the rest
abbrev pub word_signs : ℕ → ℕ → List Token → List PositionedSign
word_signs weight sign items =
    positioned_sign Nothing weight EDGE ∷ positioned_sign Nothing weight sign
    ∷ signs_behind weight Nothing weight items

-- the word of a line: a number before its first letter is the word weight, a mark there is nothing
abbrev pub running_word : ℕ → List Token → LineWord
running_word weight [] = record { word = None; weight = weight }
running_word weight (Letter s ∷ items) =
    record { word = Some (word_of_signs weight (word_signs weight s items)); weight = weight }
running_word weight (Digit n ∷ items) = running_word n items
running_word weight (Weight n ∷ items) = running_word n items
running_word weight (Marked m ∷ items) = running_word weight items
running_word weight (Edge ∷ items) =
    record { word = Some (word_of_signs weight (word_signs weight EDGE items)); weight = weight }
