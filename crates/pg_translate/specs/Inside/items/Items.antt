-- What the items of a line are, and the cuts of a line into items.
use Rattle.std.specs.Prelude.{◌≡◌, ℕ, ◌+◌, ◌<◌, ◌≤◌, true, List, [], ◌∷◌, ◌++◌, length, map, fold, codes, nat_eq}
use Rattle.std.specs.List.{list_all, concat, AllByRecursion, starts_with}
use Rattle.pg_types.specs.Numbers.{with_digit}
use Rattle.pg_types.specs.declared.marks.Mark.{Mark}
use Rattle.pg_types.specs.declared.marks.Mark.TheVariants.{Nothing, Error, Missed, Found, DontCare}
use Rattle.pg_translate.specs.declared.weights.TheConstants.{WEIGHT_DIGITS_MAX}
use Rattle.pg_translate.specs.declared.items.Place.{Place}
use Rattle.pg_translate.specs.declared.items.Place.TheVariants.{Dictionary, Patterns}
use Rattle.pg_translate.specs.Alphabets.{Alphabet}
use Rattle.pg_translate.specs.Inside.items.MarkBytes.{mark_byte_of}
use Rattle.pg_translate.specs.Inside.spellings.Members.{IsAmong}
use Rattle.std.specs.Char.{is_ascii_digit}
use Rattle.pg_translate.specs.Tokens.{Token, Letter, Digit, Weight, Marked, Edge}

-- the value of decimal digits
abbrev pub decimal_value : List ℕ → ℕ
decimal_value digits = fold with_digit 0 digits

-- a text is a weight in braces: a brace, one to four digits with a value above 0, and a brace
pub record IsWeight (weight : ℕ) (text : List ℕ) : Type 0 where
  pub digits : List ℕ
  pub text_is : text ≡ 123 ∷ (digits ++ 125 ∷ [])
  pub few : length digits ≤ WEIGHT_DIGITS_MAX
  pub decimal : list_all is_ascii_digit digits ≡ true
  pub value : weight ≡ decimal_value digits
  pub some : 0 < weight

-- a text is the byte of a mark
abbrev pub IsMark : Alphabet → Mark → List ℕ → Type 0
IsMark t Nothing text = ⊥
IsMark t Error text = text ≡ mark_byte_of t Error ∷ []
IsMark t Missed text = text ≡ mark_byte_of t Missed ∷ []
IsMark t Found text = text ≡ mark_byte_of t Found ∷ []
IsMark t DontCare text = text ≡ mark_byte_of t DontCare ∷ []

-- a text is an item: a spelling or digit, a weight or mark in a dictionary, the edge in patterns
abbrev pub IsItem : Alphabet → Place → Token → List ℕ → Type 0
IsItem t place (Letter sign) text = IsAmong (sign, text) t.spellings
IsItem t place (Digit digit) text = (digit ≤ 9) × (text ≡ (48 + digit) ∷ [])
IsItem t Dictionary (Weight weight) text = IsWeight weight text
IsItem t Patterns (Weight weight) text = ⊥
IsItem t Dictionary (Marked mark) text = IsMark t mark text
IsItem t Patterns (Marked mark) text = ⊥
IsItem t Dictionary Edge text = ⊥
IsItem t Patterns Edge text = text ≡ codes "."

-- each text of the list is its item
abbrev pub AreItems : Alphabet → Place → List (Token × List ℕ) → Type 0
AreItems t place items = AllByRecursion (λ item. IsItem t place item.0 item.1) items

-- what items mean
abbrev pub tokens_in : List (Token × List ℕ) → List Token
tokens_in items = map (λ item. item.0) items

-- the texts of items, joined
abbrev pub text_of_items : List (Token × List ℕ) → List ℕ
text_of_items items = concat (map (λ item. item.1) items)

-- a list of items is a cut of a line: their texts, joined, are a prefix of the line
pub record IsCut (t : Alphabet) (place : Place) (line : List ℕ)
    (items : List (Token × List ℕ)) : Type 0 where
  pub each : AreItems t place items
  pub prefix : starts_with nat_eq line (text_of_items items) ≡ true

-- a list begins another
abbrev pub IsPrefix : List (Token × List ℕ) → List (Token × List ℕ) → Type 0
IsPrefix items all = (more : List (Token × List ℕ)) × (all ≡ items ++ more)

-- items, each with the column of its first byte, from a column on
abbrev pub with_columns : ℕ → List (Token × List ℕ) → List (ℕ × (Token × List ℕ))
with_columns column [] = []
with_columns column (item ∷ items) = (column, item) ∷ with_columns (column + length item.1) items

-- the longest cut of a line, of which every cut is a prefix
pub record IsLongest (t : Alphabet) (place : Place)
    (line : List ℕ) (items : List (Token × List ℕ)) : Type 0 where
  pub cut : IsCut t place line items
  pub all : (other : List (Token × List ℕ)) → IsCut t place line other → IsPrefix other items

-- the items of a line are its longest cut, each with its column
pub record AreLongest (t : Alphabet) (place : Place)
    (line : List ℕ) (items : List (ℕ × (Token × List ℕ))) : Type 0 where
  pub longest : IsLongest t place line (map (λ i. i.1) items)
  pub columns : items ≡ with_columns 1 (map (λ i. i.1) items)
