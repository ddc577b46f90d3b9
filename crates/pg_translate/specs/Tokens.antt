-- The item that begins a text, for both kinds of lines.
use Rattle.std.specs.Prelude.{ℕ, ◌==◌, nat_lt, nat_le, Bool, ◌&&◌, ◌||◌, if◌then◌else◌, List, [], ◌∷◌, ◌++◌, length, drop, fold, map, slice_index_or, take_while, find, Option, nat_eq, codes}
use Rattle.std.specs.List.{starts_with, enumerate_from, zip}
use Rattle.std.specs.Char.{is_ascii_digit}
use Rattle.pg_types.specs.Numbers.{with_digit}
use Rattle.pg_types.specs.declared.marks.Mark.{Mark}
use Rattle.pg_types.specs.declared.marks.Mark.TheVariants.{Error, Missed, Found, DontCare}
use Rattle.pg_translate.specs.declared.weights.TheConstants.{WEIGHT_DIGITS_MAX}
use Rattle.pg_translate.specs.declared.items.Place.{Place}
use Rattle.pg_translate.specs.declared.items.Place.TheVariants.{Dictionary, Patterns}
use Rattle.pg_translate.specs.Alphabets.{Alphabet}

-- what an item means: the letter with a sign, a digit, a weight in braces, a mark, or the edge
pub data Token : Type 0 where
  Letter : ℕ → Token
  Digit : ℕ → Token
  Weight : ℕ → Token
  Marked : Mark → Token
  Edge : Token

-- the weight in braces where a text begins with a brace, which is not looked at here: one to four
-- digits behind it, with a value above 0
abbrev pub weight_in : List ℕ → List (Token × List ℕ)
weight_in text = let digits = take_while is_ascii_digit (drop 1 text) in
    let value = fold with_digit 0 digits in if nat_le (length digits) WEIGHT_DIGITS_MAX
    && nat_lt 0 value then (Weight value, codes "{" ++ digits ++ codes "}") ∷ [] else []

-- what may begin a text, each meaning with its own text: the spellings and the digits, and besides
-- in a dictionary a weight in braces and the marks, and in patterns a dot for the edge
abbrev pub items_for : Alphabet → Place → List ℕ → List (Token × List ℕ)
items_for t place text = map (λ s. (Letter s.0, s.1)) t.spellings
    ++ map (λ d. (Digit d.0, d.1 ∷ [])) (enumerate_from 0 (codes "0123456789")) ++ elim place [
      | Dictionary ↦ weight_in text ++ map (λ m. (Marked m.1, m.0 ∷ []))
          (zip t.marks (Error ∷ Missed ∷ Found ∷ DontCare ∷ []))
      | Patterns ↦ (Edge, codes ".") ∷ []
    ]

-- the item that begins a text, with its own text
abbrev pub item_at : Alphabet → Place → List ℕ → Option (Token × List ℕ)
item_at t place text = find (λ item. starts_with nat_eq text item.1) (items_for t place text)

-- whether what is read of a line ends here: at its end, or at a blank or TAB, behind which stands a
-- remark
abbrev pub is_ended : List ℕ → Bool
is_ended text = let b = slice_index_or text 0 32 in b == 32 || b == 9
