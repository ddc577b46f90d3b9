-- The bytes of a text, and the columns that they take.
use Rattle.std.specs.Prelude.{ℕ, Bool, not, ◌&&◌, ◌||◌, nat_eq, nat_lt, nat_le, List, [], ◌∷◌, ◌++◌, count_by, replicate}

-- no control byte: what a terminal shows and does not obey
abbrev pub is_printable : ℕ → Bool
is_printable b = nat_le 32 b && not (nat_eq b 127)

-- a byte of a text: no control byte, or the line feed that ends a line
abbrev pub is_text_byte : ℕ → Bool
is_text_byte b = nat_eq b 10 || is_printable b

-- how many lines are ended
abbrev pub line_count : List ℕ → ℕ
line_count bytes = count_by (λ b. nat_eq b 10) bytes

-- how many columns a text takes: one for each character, that is for each byte that continues none
abbrev pub width_of : List ℕ → ℕ
width_of bytes = count_by (λ b. nat_lt b 128 || nat_le 192 b) bytes

-- a caret in the column behind a text
abbrev pub caret_under : List ℕ → List ℕ
caret_under above = replicate (width_of above) 32 ++ 94 ∷ []
