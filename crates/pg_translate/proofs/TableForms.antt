-- The checks of a translate file, as its reader goes through them, are those of its table.
use Rattle.std.proofs.Common.{◌≡◌, ℕ, ◌+◌, ◌-◌, ◌*◌, ◌≤◌, ◌==◌, nat_lt, Bool, true, false, not, ◌&&◌, ◌||◌, List, [], ◌∷◌, ◌++◌}
use Rattle.std.proofs.Common.{length, map, flat_map, filter, take, drop, get_or, Some, None, refl, sym, ap, ap₂, ◌∙◌, arith, suc, zero}
use Rattle.std.specs.Prelude.{if◌then◌else◌, unwrap_or, slice_index, Result}
use Rattle.std.specs.List.{enumerate_from, list_all, suffix_len, sum_by, take_while}
use Rattle.std.specs.Char.{is_ascii_digit}
use Rattle.std.proofs.Math.Seq.{take-append_seam}
use Rattle.std.proofs.lemmas.Bool.{and_parts, eqb-true, lt-ltb}
use Rattle.std.proofs.lemmas.List.{append_assoc, take_all, length-append}
use Rattle.std.proofs.lemmas.List.Sums.{take_while-cons, suffix_len-take_yes, suffix_len-take_no, fold-append}
use Rattle.pg_types.specs.declared.refusals.Kind.TheVariants.{BadMinima, BadMark}
use Rattle.pg_types.specs.declared.refusals.Refusal.{Refusal}
use Rattle.pg_types.specs.Lines.{pieces_at, has_byte}
use Rattle.pg_types.specs.Numbers.{number}
use Rattle.pg_types.specs.ValuesOrRefusals.{refusal_at}
use Rattle.pg_types.specs.Inside.reading.Parts.{first_refusal}
use Rattle.pg_translate.specs.declared.head.TheConstants.{DEFAULT_LEFT, DEFAULT_RIGHT, DEFAULT_ERROR, DEFAULT_MISSED, DEFAULT_FOUND, DEFAULT_DONT_CARE}
use Rattle.pg_translate.specs.Alphabets.{Alphabet}
use Rattle.pg_translate.specs.Spellings.{is_space}
use Rattle.pg_translate.specs.Tables.{check, minimum, head_checks, ListedSpelling, pieces_of_line, spellings_in, spellings_of, spelling_check, alphabet_of}
use Rattle.pg_translate.specs.Inside.tables.Checks.{marks_of, in_column, pair_at, is_blank_pair, pair_value, left_minimum, right_minimum, mark_in, mark_fails, minima_checks, mark_checks, head_checks_by_pairs, without_blanks, before_empty, delimited_pieces, trimmed_pieces, with_line_spellings, spellings_from, spellings_at, spelling_with_sign, spelling_checks_from, alphabet_by_lines}
use Rattle.pg_translate.proofs.LetterLines.{trim_more, trim_end}

-- no blank
abbrev is_dark : ℕ → Bool
is_dark b = not (b == 32)

-- the minimum of a pair is the number that it writes
one_digit : (d : Bool) (n m : ℕ) → n ≡ m → (if d then n else 0) ≡ unwrap_or (if d && true then Some m else None) 0
one_digit true n m same = same
one_digit false n m same = refl

two_digits : (d e : Bool) (n m one other : ℕ) → n ≡ m → (if d then (if e then n else if false then one else 0) else if false && e then other else 0)
    ≡ unwrap_or (if d && (e && true) then Some m else None) 0
two_digits true true n m one other same = same
two_digits true false n m one other same = refl
two_digits false e n m one other same = refl

pair_by : (a b : ℕ) (blank_a blank_b : Bool) → (a == 32) ≡ blank_a → (b == 32) ≡ blank_b → pair_value a b ≡ unwrap_or (number (filter is_dark (a ∷ b ∷ []))) 0
pair_by a b true true at bt = rw (eqb-true a 32 at, eqb-true b 32 bt) refl
pair_by a b true false at bt = rw (eqb-true a 32 at, bt) (one_digit (is_ascii_digit b) (b - 48) (0 * 10 + (b - 48)) (omega arith))
pair_by a b false true at bt = rw (eqb-true b 32 bt, at) (one_digit (is_ascii_digit a) (a - 48) (0 * 10 + (a - 48)) (omega arith))
pair_by a b false false at bt = rw (at, bt) (two_digits (is_ascii_digit a) (is_ascii_digit b) ((a - 48) * 10 + (b - 48)) ((0 * 10 + (a - 48)) * 10 + (b - 48)) (a - 48) (b - 48) (omega arith))

-- four blank columns are two blank pairs
four_blank : (p q r s : Bool) → (p && (q && (r && (s && true)))) ≡ (p && q && (r && s))
four_blank false q r s = refl
four_blank true false r s = refl
four_blank true true false s = refl
four_blank true true true false = refl
four_blank true true true true = refl

-- whether both pairs are blank, and the value of one
abbrev both_blank : List ℕ → Bool
both_blank head = is_blank_pair (pair_at head 1) && is_blank_pair (pair_at head 3)

abbrev value_at : List ℕ → ℕ → ℕ
value_at head column = pair_value (in_column head column) (in_column head (column + 1))

four_as : (head : List ℕ) → list_all (λ b. b == 32) (take 4 head) ≡ both_blank head
four_as head = blank_front head ∙ four_blank (in_column head 1 == 32) (in_column head 2 == 32) (in_column head 3 == 32) (in_column head 4 == 32)
  where
    blank_front : (head : List ℕ) → list_all (λ b. b == 32) (take 4 head)
        ≡ (in_column head 1 == 32 && (in_column head 2 == 32 && (in_column head 3 == 32 && (in_column head 4 == 32 && true))))
    blank_front [] = refl
    blank_front (a ∷ []) = refl
    blank_front (a ∷ b ∷ []) = refl
    blank_front (a ∷ b ∷ c ∷ []) = refl
    blank_front (a ∷ b ∷ c ∷ d ∷ more) = refl

-- the digits of a pair
abbrev digits_in : List ℕ → ℕ → List ℕ
digits_in head column = filter is_dark (in_column head column ∷ in_column head (column + 1) ∷ [])

left_digits : (head : List ℕ) → filter is_dark (take 2 (drop (1 - 1) head)) ≡ digits_in head 1
left_digits [] = refl
left_digits (a ∷ []) = refl
left_digits (a ∷ b ∷ more) = refl

right_digits : (head : List ℕ) → filter is_dark (take 2 (drop (3 - 1) head)) ≡ digits_in head 3
right_digits [] = refl
right_digits (a ∷ []) = refl
right_digits (a ∷ b ∷ []) = refl
right_digits (a ∷ b ∷ c ∷ []) = refl
right_digits (a ∷ b ∷ c ∷ d ∷ more) = refl

minimum_as : (head : List ℕ) (column default : ℕ) → filter is_dark (take 2 (drop (column - 1) head)) ≡ digits_in head column
    → minimum head column default ≡ (if both_blank head then default else value_at head column)
minimum_as head column default digits =
    let a = in_column head column in
    let b = in_column head (column + 1) in
    ap₂ (λ (blank : Bool) (n : ℕ). if blank then default else n) (four_as head)
    (ap (λ (text : List ℕ). unwrap_or (number text) 0) digits ∙ sym (pair_by a b (a == 32) (b == 32) refl refl))

-- a blank pair has no value
blank_value : (a b : ℕ) → (a == 32 && b == 32) ≡ true → pair_value a b ≡ 0
blank_value a b blank =
    let parts : ((a == 32) ≡ true) × ((b == 32) ≡ true) = and_parts (a == 32) (b == 32) blank in
    rw (eqb-true a 32 parts.0, eqb-true b 32 parts.1) refl

-- a head is refused, or says its minima, as its reader goes through the pairs
minima_as : (left right : Bool) (m n : ℕ) (marks more : List Refusal) (T : ℕ → ℕ → Alphabet) → (left ≡ true → m ≡ 0) → (right ≡ true → n ≡ 0)
    → first_refusal ((check (if left then not right else m == 0) BadMinima 1 1 ++ check (if right then not left else n == 0) BadMinima 1 3) ++ marks ++ more)
    (T (if left then DEFAULT_LEFT else m) (if right then DEFAULT_RIGHT else n))
    ≡ first_refusal ((check ((if left && right then DEFAULT_LEFT else m) == 0) BadMinima 1 1 ++ check ((if left && right then DEFAULT_RIGHT else n) == 0) BadMinima 1 3) ++ marks ++ more)
    (T (if left && right then DEFAULT_LEFT else m) (if left && right then DEFAULT_RIGHT else n))
minima_as true true m n marks more T low high = refl
minima_as true false m n marks more T low high = rw (low refl) refl
minima_as false false m n marks more T low high = refl
minima_as false true m n marks more T low high = rw (high refl) (second (m == 0))
  where
    second : (b : Bool) → first_refusal ((check b BadMinima 1 1 ++ refusal_at 1 BadMinima 3 ∷ []) ++ marks ++ more) (T m DEFAULT_RIGHT)
        ≡ first_refusal ((check b BadMinima 1 1 ++ refusal_at 1 BadMinima 3 ∷ []) ++ marks ++ more) (T m 0)
    second true = refl
    second false = refl

-- the marks before one, in either order
swap_two : (x y : Bool) → (x || (y || false)) ≡ (y || (x || false))
swap_two true true = refl
swap_two true false = refl
swap_two false true = refl
swap_two false false = refl

swap_three : (x y z : Bool) → (x || (y || (z || false))) ≡ (z || (y || (x || false)))
swap_three true true true = refl
swap_three true true false = refl
swap_three true false true = refl
swap_three true false false = refl
swap_three false true true = refl
swap_three false true false = refl
swap_three false false true = refl
swap_three false false false = refl

third_as : (a b c : ℕ) → mark_fails (b ∷ a ∷ []) c ≡ mark_fails (a ∷ b ∷ []) c
third_as a b c = ap (λ (t : Bool). is_ascii_digit c || is_space c || c == 123 || t) (swap_two (b == c) (a == c))

fourth_as : (a b c d : ℕ) → mark_fails (c ∷ b ∷ a ∷ []) d ≡ mark_fails (a ∷ b ∷ c ∷ []) d
fourth_as a b c d = ap (λ (t : Bool). is_ascii_digit d || is_space d || d == 123 || t) (swap_three (c == d) (b == d) (a == d))

-- the checks of four marks
abbrev checks_of_marks : List ℕ → List Refusal
checks_of_marks marks = flat_map (λ m. check (mark_fails (take m.0 marks) m.1) BadMark 1 (m.0 + 5)) (enumerate_from 0 marks)

marks_as : (a b c d : ℕ) → mark_checks (a ∷ b ∷ c ∷ d ∷ []) ≡ checks_of_marks (a ∷ b ∷ c ∷ d ∷ [])
marks_as a b c d = ap₂ (λ (third fourth : Bool). check (mark_fails [] a) BadMark 1 5 ++ (check (mark_fails (a ∷ []) b) BadMark 1 6 ++ (check third BadMark 1 7 ++ (check fourth BadMark 1 8 ++ []))))
    (third_as a b c) (fourth_as a b c d)

-- a line without the blanks at its end
abbrev blank_end : List ℕ → ℕ
blank_end line = suffix_len (λ b. b == 32) line

trim_step : (line : List ℕ) (n : ℕ) (blank : Bool) → suc n ≤ length line → (get_or line (suc n - 1) 0 == 32) ≡ blank → without_blanks (take n line)
    ≡ take (n - blank_end (take n line)) line → without_blanks (take (suc n) line) ≡ take (suc n - blank_end (take (suc n) line)) line
trim_step line n true within is before =
    let back : suc n - 1 ≡ n = omega arith in
    let yes : blank_end (take (suc n) line) ≡ 1 + blank_end (take (suc n - 1) line) = suffix_len-take_yes (λ b. b == 32) line (suc n) 0 (omega arith) within is in
    let same : blank_end (take (suc n - 1) line) ≡ blank_end (take n line) = ap (λ (k : ℕ). blank_end (take k line)) back in
    let count : n - blank_end (take n line) ≡ suc n - blank_end (take (suc n) line) = omega (arith, yes, same) in
    trim_more line (suc n) (omega arith) within (eqb-true _ _ is) ∙ ap (λ (k : ℕ). without_blanks (take k line)) back ∙ before ∙ ap (λ (k : ℕ). take k line) count
trim_step line n false within is before =
    let no : blank_end (take (suc n) line) ≡ 0 = suffix_len-take_no (λ b. b == 32) line (suc n) 0 (omega arith) within is in
    let count : suc n ≡ suc n - blank_end (take (suc n) line) = omega (arith, no) in
    trim_end line (suc n) (omega arith) within is ∙ ap (λ (k : ℕ). take k line) count

trim_upto : (line : List ℕ) (n : ℕ) → n ≤ length line → without_blanks (take n line) ≡ take (n - blank_end (take n line)) line
trim_upto line zero within = let none : 0 ≡ 0 - blank_end [] = omega arith in ap (λ (k : ℕ). take k line) none
trim_upto line (suc n) within = trim_step line n (get_or line (suc n - 1) 0 == 32) within refl (trim_upto line n (omega (arith, within)))

trim_as : (line : List ℕ) → without_blanks line ≡ take (length line - blank_end line) line
trim_as line =
    let whole : take (length line) line ≡ line = take_all (length line) line (omega arith) in
    ap without_blanks (sym whole) ∙ trim_upto line (length line) (omega arith) ∙ ap (λ (text : List ℕ). take (length line - blank_end text) line) whole

-- the pieces before the first empty one
before_as : (pieces : List (List ℕ)) → before_empty pieces ≡ take_while has_byte pieces
before_as [] = refl
before_as ([] ∷ pieces) = sym (take_while-cons has_byte [] pieces)
before_as ((b ∷ bs) ∷ pieces) = ap (λ (ps : List (List ℕ)). (b ∷ bs) ∷ ps) (before_as pieces) ∙ sym (take_while-cons has_byte (b ∷ bs) pieces)

delimited_as : (text : List ℕ) → delimited_pieces text ≡ take_while has_byte (pieces_at (λ b. b == slice_index text 0) (drop 1 text))
delimited_as [] = refl
delimited_as (delimiter ∷ text) = before_as (pieces_at (λ b. b == delimiter) text)

pieces_as : (line : List ℕ) → trimmed_pieces line ≡ pieces_of_line line
pieces_as line = delimited_as (without_blanks line) ∙ ap (λ (text : List ℕ). take_while has_byte (pieces_at (λ b. b == slice_index text 0) (drop 1 text))) (trim_as line)

-- the spellings of the lines that are not skipped
abbrev spellings_by : ℕ → ℕ → List (List (List ℕ)) → List ListedSpelling
spellings_by line letter pieces = flat_map (λ l. spellings_at l.1.0 2 l.0 l.1.1) (enumerate_from letter (filter (λ l. nat_lt 0 (length l.1)) (enumerate_from line pieces)))

with_line_as : (line letter : ℕ) (pieces : List (List ℕ)) (more : List (List (List ℕ))) (later : ℕ → List ListedSpelling)
    → ((next : ℕ) → later next ≡ spellings_by (line + 1) next more) → with_line_spellings line letter pieces later ≡ spellings_by line letter (pieces ∷ more)
with_line_as line letter [] more later rest = rest letter
with_line_as line letter (piece ∷ pieces) more later rest =
    let some : nat_lt 0 (length (piece ∷ pieces)) ≡ true = lt-ltb 0 (length (piece ∷ pieces)) (omega arith) in
    let kept : List (ℕ × List (List ℕ)) = filter (λ l. nat_lt 0 (length l.1)) (enumerate_from (line + 1) more) in
    ap (λ (ss : List ListedSpelling). spellings_at line 2 letter (piece ∷ pieces) ++ ss) (rest (letter + 1))
    ∙ ap (λ (b : Bool). flat_map (λ l. spellings_at l.1.0 2 l.0 l.1.1) (enumerate_from letter (if b then (line, piece ∷ pieces) ∷ kept else kept))) (sym some)

lines_as : (texts : List (List ℕ)) (line letter : ℕ) → spellings_from line letter texts ≡ spellings_by line letter (map pieces_of_line texts)
lines_as [] line letter = refl
lines_as (text ∷ texts) line letter =
    with_line_as line letter (trimmed_pieces text) (map pieces_of_line texts) (λ next. spellings_from (line + 1) next texts) (λ next. lines_as texts (line + 1) next)
    ∙ ap (λ (pieces : List (List ℕ)). spellings_by line letter (pieces ∷ map pieces_of_line texts)) (pieces_as text)

-- the bytes of pieces, with one delimiter behind each
abbrev size_of : List (List ℕ) → ℕ
size_of pieces = sum_by (λ q. length q + 1) pieces

abbrev spelling_at : ℕ → ℕ → List (List ℕ) → ℕ × List ℕ → ListedSpelling
spelling_at line letter all p = record { line = line; column = 2 + size_of (take p.0 all); spelling = (letter + 1, p.1) }

-- the spellings of a line from a piece on
behind_as : (line letter column : ℕ) (all done later : List (List ℕ)) → done ++ later ≡ all → column ≡ 2 + size_of done → spellings_at line column letter later
    ≡ map (spelling_at line letter all) (enumerate_from (length done) later)
behind_as line letter column all done [] whole is = refl
behind_as line letter column all done (s ∷ later) whole is =
    let front : take (length done) all ≡ done = ap (take (length done)) (sym whole) ∙ take-append_seam done (s ∷ later) in
    let longer : length (done ++ s ∷ []) ≡ length done + 1 = length-append done (s ∷ []) in
    let size : size_of (done ++ s ∷ []) ≡ size_of done + (length s + 1) = fold-append (λ a q. a + (length q + 1)) 0 done (s ∷ []) in
    let next : column + (length s + 1) ≡ 2 + size_of (done ++ s ∷ []) = omega (arith, is, size) in
    ap₂ (λ (n : ℕ) (ss : List ListedSpelling). record { line = line; column = n; spelling = (letter + 1, s) } ∷ ss)
    (is ∙ ap (λ (before : List (List ℕ)). 2 + size_of before) (sym front))
    (behind_as line letter (column + (length s + 1)) all (done ++ s ∷ []) later (append_assoc done (s ∷ []) later ∙ whole) next
    ∙ ap (λ (n : ℕ). map (spelling_at line letter all) (enumerate_from n later)) longer)

-- those of all lines
numbered : (letter : ℕ) (xs : List (ℕ × List (List ℕ))) → flat_map (λ l. spellings_at l.1.0 2 l.0 l.1.1) (enumerate_from letter xs)
    ≡ flat_map (λ l. spellings_in l.1.0 l.0 l.1.1) (enumerate_from (letter + 1) xs)
numbered letter [] = refl
numbered letter (x ∷ xs) = ap₂ (λ (first more : List ListedSpelling). first ++ more) (behind_as x.0 letter 2 x.1 [] x.1 refl refl) (numbered (letter + 1) xs)

spellings_as : (texts : List (List ℕ)) → spellings_from 2 1 texts ≡ spellings_of texts
spellings_as texts = lines_as texts 2 1 ∙ numbered 1 (filter (λ l. nat_lt 0 (length l.1)) (enumerate_from 2 (map pieces_of_line texts)))

-- the checks of the letter lines, spelling by spelling, each beside those before it
abbrev pub spelling_checks : List ℕ → List ListedSpelling → List Refusal
spelling_checks marks all = flat_map (λ s. spelling_check marks (take s.0 (map spelling_with_sign all)) s.1) (enumerate_from 0 all)

checks_behind : (marks : List ℕ) (all earlier : List (ℕ × List ℕ)) (later : List ListedSpelling) → earlier ++ map spelling_with_sign later ≡ all
    → spelling_checks_from marks earlier later ≡ flat_map (λ s. spelling_check marks (take s.0 all) s.1) (enumerate_from (length earlier) later)
checks_behind marks all earlier [] whole = refl
checks_behind marks all earlier (s ∷ later) whole =
    let front : take (length earlier) all ≡ earlier = ap (take (length earlier)) (sym whole) ∙ take-append_seam earlier (map spelling_with_sign (s ∷ later)) in
    let longer : length (earlier ++ s.spelling ∷ []) ≡ length earlier + 1 = length-append earlier (s.spelling ∷ []) in
    ap₂ (λ (before : List (ℕ × List ℕ)) (rs : List Refusal). spelling_check marks before s ++ rs) (sym front)
    (checks_behind marks all (earlier ++ s.spelling ∷ []) later (append_assoc earlier (s.spelling ∷ []) (map spelling_with_sign later) ∙ whole)
    ∙ ap (λ (n : ℕ). flat_map (λ s. spelling_check marks (take s.0 all) s.1) (enumerate_from n later)) longer)

checks_as : (marks : List ℕ) (all : List ListedSpelling) → spelling_checks_from marks [] all ≡ spelling_checks marks all
checks_as marks all = checks_behind marks (map spelling_with_sign all) [] all refl

-- the table that a head and letter lines say
abbrev pub table_by : List ℕ → List (List ℕ) → Alphabet
table_by head letter_lines = alphabet_of head (map spelling_with_sign (spellings_of letter_lines))

-- what the head and the letter lines of a file come to
pub read_as : (head : List ℕ) (letter_lines : List (List ℕ)) → first_refusal (head_checks_by_pairs head ++ spelling_checks_from (marks_of head) [] (spellings_from 2 1 letter_lines))
    (alphabet_by_lines head letter_lines)
    ≡ first_refusal (head_checks (table_by head letter_lines) ++ spelling_checks (marks_of head) (spellings_of letter_lines)) (table_by head letter_lines)
read_as head letter_lines =
    ap (λ (ms : List Refusal). by_parts ms (checks_from (spellings_from 2 1 letter_lines)) (spellings_from 2 1 letter_lines)) checked
    ∙ ap (λ (ss : List ListedSpelling). by_parts marks (checks_from ss) ss) (spellings_as letter_lines)
    ∙ ap (λ (more : List Refusal). by_parts marks more all) (checks_as (marks_of head) all)
    ∙ minima_as (is_blank_pair (pair_at head 1)) (is_blank_pair (pair_at head 3)) (value_at head 1) (value_at head 3) marks (spelling_checks (marks_of head) all)
    with_minima (blank_value (in_column head 1) (in_column head 2)) (blank_value (in_column head 3) (in_column head 4))
    ∙ ap₂ (λ (left right : ℕ). first_refusal ((check (left == 0) BadMinima 1 1 ++ check (right == 0) BadMinima 1 3) ++ marks ++ spelling_checks (marks_of head) all) (with_minima left right))
    (sym (minimum_as head 1 DEFAULT_LEFT (left_digits head))) (sym (minimum_as head 3 DEFAULT_RIGHT (right_digits head)))
  where
    all : List ListedSpelling
    all = spellings_of letter_lines

    marks : List Refusal
    marks = checks_of_marks (marks_of head)

    checked : mark_checks (marks_of head) ≡ marks
    checked = marks_as (mark_in head 5 DEFAULT_ERROR) (mark_in head 6 DEFAULT_MISSED) (mark_in head 7 DEFAULT_FOUND) (mark_in head 8 DEFAULT_DONT_CARE)

    checks_from : List ListedSpelling → List Refusal
    checks_from ss = spelling_checks_from (marks_of head) [] ss

    by_parts : List Refusal → List Refusal → List ListedSpelling → Result Alphabet Refusal
    by_parts ms more ss = first_refusal (minima_checks head ++ ms ++ more)
        (record { left = left_minimum head; right = right_minimum head; marks = marks_of head; spellings = map spelling_with_sign ss })

    with_minima : ℕ → ℕ → Alphabet
    with_minima left right = record { left = left; right = right; marks = marks_of head; spellings = map spelling_with_sign all }
