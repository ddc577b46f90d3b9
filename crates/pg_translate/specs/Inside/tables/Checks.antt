-- The checks of a translate file, as its reader goes through them: pair by pair, byte by byte and
-- line by line.
use Rattle.std.specs.Prelude.{ℕ, ◌+◌, ◌-◌, ◌*◌, ◌==◌, Bool, not, ◌&&◌, ◌||◌, if◌then◌else◌, List, [], ◌∷◌, ◌++◌, length, slice_index_or, codes, Result, map}
use Rattle.std.specs.Char.{is_ascii_digit}
use Rattle.pg_types.specs.declared.refusals.Kind.TheVariants.{BadMinima, BadMark}
use Rattle.pg_types.specs.declared.refusals.Refusal.{Refusal}
use Rattle.pg_types.specs.Lines.{pieces_at}
use Rattle.pg_types.specs.Inside.reading.Parts.{first_refusal}
use Rattle.pg_translate.specs.declared.head.TheConstants.{DEFAULT_LEFT, DEFAULT_RIGHT}
use Rattle.std.specs.List.{list_any, enumerate_from}
use Rattle.pg_translate.specs.Spellings.{is_space}
use Rattle.pg_translate.specs.Alphabets.{Alphabet}
use Rattle.pg_translate.specs.Tables.{check, ListedSpelling, spelling_check}

-- whether all checks pass, or the refusal of the first that fails
abbrev pub first_failure : List Refusal → Result (Unit {0}) Refusal
first_failure refusals = first_refusal refusals tt

-- the byte in a column of the head; a column past its end is blank
abbrev pub in_column : List ℕ → ℕ → ℕ
in_column head column = slice_index_or head (column - 1) 32

-- the pair of bytes that begins at a column
abbrev pub pair_at : List ℕ → ℕ → ℕ × ℕ
pair_at head column = (in_column head column, in_column head (column + 1))

-- whether a pair is two blanks
abbrev pub is_blank_pair : ℕ × ℕ → Bool
is_blank_pair pair = pair.0 == 32 && pair.1 == 32

-- the value of a digit and a blank, in either order, or of two digits; 0 for other pairs
abbrev pub pair_value : ℕ → ℕ → ℕ
pair_value first second =
    if is_ascii_digit first
    then (if is_ascii_digit second then (first - 48) * 10 + (second - 48)
    else if second == 32 then first - 48 else 0)
    else if first == 32 && is_ascii_digit second then second - 48 else 0

-- a pair fails if it alone is blank, or if it is not blank and its bytes are no number from 1 on
abbrev pub pair_fails : ℕ × ℕ → ℕ × ℕ → Bool
pair_fails pair other = if is_blank_pair pair then not (is_blank_pair other)
    else pair_value pair.0 pair.1 == 0

-- the minimum of a pair; two blanks mean a default
abbrev pub pair_minimum : ℕ × ℕ → ℕ → ℕ
pair_minimum pair default = if is_blank_pair pair then default else pair_value pair.0 pair.1

-- the left minimum of a head
abbrev pub left_minimum : List ℕ → ℕ
left_minimum head = pair_minimum (pair_at head 1) DEFAULT_LEFT

-- the right minimum of a head
abbrev pub right_minimum : List ℕ → ℕ
right_minimum head = pair_minimum (pair_at head 3) DEFAULT_RIGHT

-- the mark bytes of a head
abbrev pub marks_of : List ℕ → List ℕ
marks_of head = map (λ m. let b = slice_index_or head m.0 32 in if b == 32 then m.1 else b)
    (enumerate_from 4 (codes ".-*?"))

-- the mark byte in a column; a blank means a default
abbrev pub mark_in : List ℕ → ℕ → ℕ → ℕ
mark_in head column default = if in_column head column == 32 then default else in_column head column

-- a mark fails where it is a digit, a blank, TAB, LF, CR or `{`, or equals one before it
abbrev pub mark_fails : List ℕ → ℕ → Bool
mark_fails earlier mark = is_ascii_digit mark || is_space mark
    || mark == 123 || list_any (λ other. other == mark) earlier

-- the checks of the marks, from a column on
abbrev pub mark_checks_from : ℕ → List ℕ → List ℕ → List Refusal
mark_checks_from column earlier [] = []
mark_checks_from column earlier (mark ∷ marks) =
    check (mark_fails earlier mark) BadMark 1 column
    ++ mark_checks_from (column + 1) (mark ∷ earlier) marks

-- the checks of the marks, the first of which stands in column 5
abbrev pub mark_checks : List ℕ → List Refusal
mark_checks marks = mark_checks_from 5 [] marks

-- the checks of the minima: the left pair and the right pair
abbrev pub minima_checks : List ℕ → List Refusal
minima_checks head = check (pair_fails (pair_at head 1) (pair_at head 3)) BadMinima 1 1
    ++ check (pair_fails (pair_at head 3) (pair_at head 1)) BadMinima 1 3

-- the checks of the head: the minima and the marks
abbrev pub head_checks_by_pairs : List ℕ → List Refusal
head_checks_by_pairs head = minima_checks head ++ mark_checks (marks_of head)

-- a byte before a line; a blank at the line's end is dropped
abbrev pub unless_blank_end : ℕ → List ℕ → List ℕ
unless_blank_end b [] = if b == 32 then [] else b ∷ []
unless_blank_end b (x ∷ xs) = b ∷ x ∷ xs

-- a line without the blanks at its end
abbrev pub without_blanks : List ℕ → List ℕ
without_blanks [] = []
without_blanks (b ∷ bs) = unless_blank_end b (without_blanks bs)

-- the pieces before the first empty one
abbrev pub before_empty : List (List ℕ) → List (List ℕ)
before_empty [] = []
before_empty ([] ∷ pieces) = []
before_empty ((b ∷ bs) ∷ pieces) = (b ∷ bs) ∷ before_empty pieces

-- the spellings in what stands behind the delimiter that begins a letter line
abbrev pub pieces_of : ℕ → List ℕ → List (List ℕ)
pieces_of delimiter text = before_empty (pieces_at (λ b. b == delimiter) text)

-- the spellings in a line whose first byte is the delimiter
abbrev pub delimited_pieces : List ℕ → List (List ℕ)
delimited_pieces [] = []
delimited_pieces (delimiter ∷ text) = pieces_of delimiter text

-- the spellings of a letter line; a line without any is skipped
abbrev pub trimmed_pieces : List ℕ → List (List ℕ)
trimmed_pieces line = delimited_pieces (without_blanks line)

-- a spelling with its sign
abbrev pub spelling_with_sign : ListedSpelling → ℕ × List ℕ
spelling_with_sign s = s.spelling

-- the spellings of a letter with this number in a line, from a column on
abbrev pub spellings_at : ℕ → ℕ → ℕ → List (List ℕ) → List ListedSpelling
spellings_at line column letter [] = []
spellings_at line column letter (piece ∷ pieces) =
    record { line = line; column = column; spelling = (letter + 1, piece) } ∷ spellings_at line
    (column + (length piece + 1)) letter pieces

-- a letter of the default table, counted from 0: a small letter of ASCII and its capital
abbrev pub default_letter : ℕ → List (ℕ × List ℕ)
default_letter n = (n + 2, (97 + n) ∷ []) ∷ (n + 2, (65 + n) ∷ []) ∷ []

-- the spellings of a letter in a line of this number, from what follows the line's first delimiter
abbrev pub spellings_behind : ℕ → ℕ → ℕ → List ℕ → List ListedSpelling
spellings_behind line letter delimiter text = spellings_at line 2 letter (pieces_of delimiter text)

-- the spellings of a letter in a line of this number, from the whole line
abbrev pub spellings_of_line : ℕ → ℕ → List ℕ → List ListedSpelling
spellings_of_line line letter text = spellings_at line 2 letter (trimmed_pieces text)

-- the spellings of a line with these pieces, before those of the lines after it
abbrev pub with_line_spellings : ℕ → ℕ → List (List ℕ)
    → (ℕ → List ListedSpelling) → List ListedSpelling
with_line_spellings line letter [] later = later letter
with_line_spellings line letter (piece ∷ pieces) later =
    spellings_at line 2 letter (piece ∷ pieces) ++ later (letter + 1)

-- the spellings of the letter lines from a line and a letter on
abbrev pub spellings_from : ℕ → ℕ → List (List ℕ) → List ListedSpelling
spellings_from line letter [] = []
spellings_from line letter (text ∷ texts) =
    with_line_spellings line letter (trimmed_pieces text)
    (λ next. spellings_from (line + 1) next texts)

-- the checks of the letter lines, spelling by spelling
abbrev pub spelling_checks_from : List ℕ → List (ℕ × List ℕ) → List ListedSpelling → List Refusal
spelling_checks_from marks earlier [] = []
spelling_checks_from marks earlier (s ∷ later) =
    spelling_check marks earlier s ++ spelling_checks_from marks
    (earlier ++ spelling_with_sign s ∷ []) later

-- whether all spellings pass beside earlier ones, or the refusal of the first that fails
abbrev pub spellings_outcome : List ℕ → List (ℕ × List ℕ)
    → List ListedSpelling → Result (Unit {0}) Refusal
spellings_outcome marks earlier spellings =
    first_failure (spelling_checks_from marks earlier spellings)

-- the table that a head and letter lines say
abbrev pub alphabet_by_lines : List ℕ → List (List ℕ) → Alphabet
alphabet_by_lines head letter_lines = record {
  left = left_minimum head;
  right = right_minimum head;
  marks = marks_of head;
  spellings = map spelling_with_sign (spellings_from 2 1 letter_lines);
}
