-- The table that a translate file gives, or its refusal.
use Rattle.std.specs.Prelude.{ℕ, ◌+◌, ◌-◌, ◌==◌, nat_lt, Bool, not, ◌||◌, if◌then◌else◌, List, [], ◌∷◌, ◌++◌, length, map, flat_map, filter, take, drop, slice_get, slice_index, slice_index_or, unwrap_or, codes, Result, Ok}
use Rattle.std.specs.List.{list_all, list_any, enumerate_from, suffix_len, sum_by, take_while}
use Rattle.pg_types.specs.declared.limits.TheConstants.{FILE_MAX, SIGNS_MAX}
use Rattle.pg_types.specs.declared.refusals.Kind.{Kind}
use Rattle.pg_types.specs.declared.refusals.Kind.TheVariants.{TranslateTooLong, BadMinima, BadMark, BadSpelling, SpellingClash, TooManyLetters}
use Rattle.pg_types.specs.declared.refusals.Refusal.{Refusal}
use Rattle.pg_types.specs.Lines.{lines, pieces_at, has_byte}
use Rattle.pg_types.specs.Numbers.{number}
use Rattle.pg_types.specs.ValuesOrRefusals.{refusal_at, unless}
use Rattle.pg_translate.specs.declared.head.TheConstants.{DEFAULT_LEFT, DEFAULT_RIGHT}
use Rattle.pg_translate.specs.Alphabets.{Alphabet}
use Rattle.pg_translate.specs.Spellings.{is_space, is_spelling, clash}
use Rattle.std.specs.Char.{is_ascii_digit}

-- the minimum in the two bytes of the head from a column on, 0 where they write none; the default
-- where the four bytes of both minima are blank, or not there
abbrev pub minimum : List ℕ → ℕ → ℕ → ℕ
minimum head column default = if list_all (λ b. b == 32) (take 4 head) then default
    else unwrap_or (number (filter (λ b. not (b == 32)) (take 2 (drop (column - 1) head)))) 0

-- the table that a head says, with these spellings. The bytes 5 to 8 of the head are for an
-- erroneous, a missed, a found and a don't-care position; a blank, or none, means the default
abbrev pub alphabet_of : List ℕ → List (ℕ × List ℕ) → Alphabet
alphabet_of head spellings = record {
  left = minimum head 1 DEFAULT_LEFT;
  right = minimum head 3 DEFAULT_RIGHT;
  marks = map (λ m. let b = slice_index_or head m.0 32 in if b == 32 then m.1 else b)
      (enumerate_from 4 (codes ".-*?"));
  spellings = spellings;
}

-- a refusal with its place, where a check fails
abbrev pub check : Bool → Kind → ℕ → ℕ → List Refusal
check fails kind line column = if fails then refusal_at line kind column ∷ [] else []

-- the checks of the head that says a table: the left and the right minimum, and each mark, which
-- fails where it is a digit, a blank, TAB, LF, CR or `{`, or equals one before it
abbrev pub head_checks : Alphabet → List Refusal
head_checks t = check (t.left == 0) BadMinima 1 1 ++ check (t.right == 0) BadMinima 1 3
    ++ flat_map (λ m. check (is_ascii_digit m.1 || is_space m.1 || m.1 == 123
    || list_any (λ other. other == m.1) (take m.0 t.marks)) BadMark 1 (m.0 + 5))
    (enumerate_from 0 t.marks)

-- a spelling of the file with the sign of its letter, and where it stands
pub record ListedSpelling : Type 0 where
  pub line : ℕ
  pub column : ℕ
  pub spelling : ℕ × List ℕ

-- the pieces of a letter line without the blanks at its end: what its first byte parts, up to an
-- empty piece
abbrev pub pieces_of_line : List ℕ → List (List ℕ)
pieces_of_line line = let text = take (length line - suffix_len (λ b. b == 32) line) line in
    take_while has_byte (pieces_at (λ b. b == slice_index text 0) (drop 1 text))

-- the spellings of the letter with a sign, which are the pieces of a line; one byte parts them
abbrev pub spellings_in : ℕ → ℕ → List (List ℕ) → List ListedSpelling
spellings_in line sign pieces =
    let column : ℕ → ℕ = λ i. 2 + sum_by (λ q. length q + 1) (take i pieces) in
    map (λ p. record { line = line; column = column p.0; spelling = (sign, p.1) })
    (enumerate_from 0 pieces)

-- the spellings of the lines from the second on. A line without a piece is skipped, and each other
-- one has a letter; signs count from 2, as sign 1 is the edge
abbrev pub spellings_of : List (List ℕ) → List ListedSpelling
spellings_of texts = flat_map (λ l. spellings_in l.1.0 l.0 l.1.1) (enumerate_from 2 (filter
    (λ l. nat_lt 0 (length l.1)) (enumerate_from 2 (map pieces_of_line texts))))

-- the checks of a spelling: the number of letters, its own form, and its clash with an earlier one
abbrev pub spelling_check : List ℕ → List (ℕ × List ℕ) → ListedSpelling → List Refusal
spelling_check marks earlier s = check (nat_lt SIGNS_MAX s.spelling.0) TooManyLetters s.line 1
    ++ (check (not (is_spelling marks s.spelling.1)) BadSpelling s.line s.column
    ++ check (list_any (clash s.spelling) earlier) SpellingClash s.line s.column)

-- the default table: minima and marks as where the head is empty, and the letters a to z, each with
-- its capital
abbrev pub default_alphabet : Alphabet
default_alphabet = alphabet_of [] (flat_map (λ l. (l.0, l.1 ∷ []) ∷ (l.0, (l.1 - 32) ∷ []) ∷ [])
    (enumerate_from 2 (codes "abcdefghijklmnopqrstuvwxyz")))

-- the table of a file of some size with these lines, or the refusal of the first check that fails:
-- of its size, of its head, and of each spelling beside those before it. A file of no bytes means
-- the default table
abbrev pub table_of : ℕ → List (List ℕ) → Result Alphabet Refusal
table_of size [] = Ok default_alphabet
table_of size (head ∷ letter_lines) = let all = spellings_of letter_lines in
    let t = alphabet_of head (map (λ s. s.spelling) all) in unless (slice_get
    (check (nat_lt FILE_MAX size) TranslateTooLong 0 0 ++ head_checks t ++ flat_map
    (λ s. spelling_check t.marks (take s.0 t.spellings) s.1) (enumerate_from 0 all)) 0) t

-- the table of a translate file, or its refusal
abbrev pub table : List ℕ → Result Alphabet Refusal
table bytes = table_of (length bytes) (lines bytes)
