-- How words and lines are written, for the laws that read them back.
use Rattle.std.specs.Prelude.{◌≡◌, ℕ, ◌+◌, ◌-◌, length, slice_index, slice_range, ◌==◌, nat_lt, true, not, if◌then◌else◌, List, [], ◌∷◌, ◌++◌, map, flat_map, Some, Ok}
use Rattle.std.specs.List.{list_all}
use Rattle.pg_types.specs.declared.limits.TheConstants.{EDGE}
use Rattle.pg_types.specs.declared.marks.Mark.{Mark}
use Rattle.pg_types.specs.declared.marks.Mark.TheVariants.{Nothing, Error, Missed, Found, DontCare}
use Rattle.pg_types.specs.Lines.{is_line_feed}
use Rattle.pg_types.specs.Inside.reading.LineEnds.{without_cr}
use Rattle.pg_translate.specs.Alphabets.{Alphabet}
use Rattle.pg_translate.specs.Tokens.{Token, Letter, Digit, Weight, Marked, Edge}
use Rattle.pg_dict.specs.Inside.Lines.PositionedSigns.{PositionedSign, positioned_sign}
use Rattle.pg_dict.specs.Word.{Word}
use Rattle.pg_dict.specs.Inside.MarkedPositions.{sets_hyphen, keeps_care}
use Rattle.pg_dict.specs.Inside.LineWords.{line_reading}

-- a letter behind the first, with the mark and the weight of the position before it
pub record MarkedLetter : Type 0 where
  pub mark : Mark
  pub weight : ℕ
  pub sign : ℕ

-- a number below 10 is a digit, and a greater one stands in braces
abbrev pub number_token : ℕ → Token
number_token n = if nat_lt n 10 then Digit n else Weight n

-- a position that is nothing has no mark
abbrev pub mark_tokens : Mark → List Token
mark_tokens Nothing = []
mark_tokens Error = Marked Error ∷ []
mark_tokens Missed = Marked Missed ∷ []
mark_tokens Found = Marked Found ∷ []
mark_tokens DontCare = Marked DontCare ∷ []

-- a weight is written where it differs from another
abbrev pub weight_tokens : ℕ → ℕ → List Token
weight_tokens other weight = if weight == other then [] else number_token weight ∷ []

-- the letters behind the first, in a word of this weight
abbrev pub letters_tokens : ℕ → List MarkedLetter → List Token
letters_tokens weight letters =
    flat_map (λ (l : MarkedLetter). mark_tokens l.mark
    ++ (weight_tokens weight l.weight ++ Letter l.sign ∷ [])) letters

-- the signs of a word with the positions before them, from its weight and its letters
abbrev pub written_signs : ℕ → ℕ → List MarkedLetter → List PositionedSign
written_signs weight sign letters =
    positioned_sign Nothing weight EDGE ∷ positioned_sign Nothing weight sign ∷
    (map (λ (l : MarkedLetter). positioned_sign l.mark l.weight l.sign) letters
    ++ positioned_sign Nothing weight EDGE ∷ [])

-- marks, weights and signs, one of each for each letter
abbrev pub written_letters : List Mark → List ℕ → List ℕ → List MarkedLetter
written_letters [] weights signs = []
written_letters (mark ∷ marks) [] signs = []
written_letters (mark ∷ marks) (weight ∷ weights) [] = []
written_letters (mark ∷ marks) (weight ∷ weights) (sign ∷ signs) =
    record { mark = mark; weight = weight; sign = sign } ∷ written_letters marks weights signs

-- what a list has at the positions between two letters of a word
abbrev pub between_letters : {X : Type 0} → List X → List X
between_letters xs = slice_range xs 2 (length xs - 1)

-- marks that mean the hyphens and cares between the letters of a word
pub record AreMarksOf (w : Word) (marks : List Mark) : Type 0 where
  pub hyphens : map sets_hyphen marks ≡ between_letters w.hyphens
  pub cares : map keeps_care marks ≡ between_letters w.cares

-- the letters of a word behind its first, with these marks
abbrev pub letters_with : List Mark → Word → List MarkedLetter
letters_with marks w = written_letters marks (between_letters w.weights) (between_letters w.signs)

-- a word with these marks: its weight where it differs, its first letter, and the letters behind it
abbrev pub word_tokens : ℕ → List Mark → Word → List Token
word_tokens before marks w = weight_tokens before w.weight
    ++ Letter (slice_index w.signs 1) ∷ letters_tokens w.weight (letters_with marks w)

-- how many of some items are letters
abbrev pub letters_among : List Token → ℕ
letters_among [] = 0
letters_among (Letter s ∷ tokens) = letters_among tokens + 1
letters_among (Digit n ∷ tokens) = letters_among tokens
letters_among (Weight n ∷ tokens) = letters_among tokens
letters_among (Marked m ∷ tokens) = letters_among tokens
letters_among (Edge ∷ tokens) = letters_among tokens

-- a text that is a line of a file: it holds no line feed and does not end with a CR
pub record IsLine (text : List ℕ) : Type 0 where
  pub whole : list_all (λ b. not (is_line_feed b)) text ≡ true
  pub ended : without_cr text ≡ text

-- lines, each with its line feed
abbrev pub text_of_lines : List (List ℕ) → List ℕ
text_of_lines texts = flat_map (λ text. text ++ 10 ∷ []) texts

-- each line gives one word, below the word weight that the line before it hands on
abbrev pub LinesGive : Alphabet → ℕ → List (List ℕ) → List Word → Type 0
LinesGive t weight [] [] = Unit {0}
LinesGive t weight [] (w ∷ ws) = ⊥
LinesGive t weight (text ∷ texts) [] = ⊥
LinesGive t weight (text ∷ texts) (w ∷ ws) =
    ((line : ℕ) → line_reading t line weight text
    ≡ Ok (record { word = Some w; weight = w.weight }))
    × LinesGive t w.weight texts ws
