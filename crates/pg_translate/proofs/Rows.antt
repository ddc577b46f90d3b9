-- What the definitions give of small files and lines.
use Rattle.std.specs.Prelude.{◌≡◌, ℕ, ◌+◌, List, [], ◌∷◌, ◌++◌, map, None, Some, Result, Ok, Err, refl, codes}
use Rattle.std.specs.List.{concat, range_with_len}
use Rattle.pg_types.specs.declared.marks.Mark.TheVariants.{Error, Missed, Found, DontCare}
use Rattle.pg_types.specs.declared.refusals.Kind.{Kind}
use Rattle.pg_types.specs.declared.refusals.Kind.TheVariants.{BadMinima, BadMark, BadSpelling, SpellingClash, DictionaryCharacter, BadWeight}
use Rattle.pg_types.specs.declared.refusals.Refusal.{Refusal}
use Rattle.pg_types.specs.ValuesOrRefusals.{refusal_at}
use Rattle.pg_translate.specs.declared.items.Place.{Place}
use Rattle.pg_translate.specs.declared.items.Place.TheVariants.{Dictionary, Patterns}
use Rattle.pg_translate.specs.Alphabets.{Alphabet, letters_of, spelling_of}
use Rattle.pg_translate.specs.Tables.{table, default_alphabet}
use Rattle.pg_translate.specs.Tokens.{Token, Letter, Digit, Weight, Marked, Edge, item_at}
use Rattle.pg_translate.specs.Cuts.{items_of}
use Rattle.pg_translate.specs.LineRefusals.{line_refusal}
use Rattle.pg_translate.specs.Reach.{positions}

-- a line with its line feed
abbrev ended : List ℕ → List ℕ
ended line = line ++ 10 ∷ []

-- a table of these lines
abbrev of_lines : List (List ℕ) → Result Alphabet Refusal
of_lines texts = table (concat (map ended texts))

-- the refusal of a translate file
abbrev refused : Kind → ℕ → ℕ → Result Alphabet Refusal
refused kind line column = Err (refusal_at line kind column)

-- a table with both minima 1 and the default marks
abbrev of_letters : List (ℕ × List ℕ) → Result Alphabet Refusal
of_letters spellings = Ok (record { left = 1; right = 1; marks = codes ".-*?"; spellings = spellings })

-- the table of the letters a, b and c
abbrev pub abc : Alphabet
abc = record { left = 1; right = 1; marks = codes ".-*?"; spellings = (2, codes "a") ∷ (3, codes "b") ∷ (4, codes "c") ∷ [] }

pub empty_file : table [] ≡ Ok default_alphabet
empty_file = refl

pub letters_of_default : letters_of default_alphabet ≡ 26
letters_of_default = refl

pub spellings_of_default : map (spelling_of default_alphabet) (range_with_len 1 27) ≡ map (λ b. b ∷ []) (codes ".abcdefghijklmnopqrstuvwxyz")
spellings_of_default = refl

-- the letter line of a small letter and its capital
abbrev pair_line : ℕ → List ℕ
pair_line n = 32 ∷ (97 + n) ∷ 32 ∷ (65 + n) ∷ []

pub default_by_lines : of_lines (codes "" ∷ map pair_line (range_with_len 0 26)) ≡ Ok default_alphabet
default_by_lines = refl

pub three_letters : of_lines (codes " 1 1" ∷ codes " a" ∷ codes " b" ∷ codes " c" ∷ []) ≡ Ok abc
three_letters = refl

pub clashing_spellings : of_lines (codes " 1 1" ∷ codes " s" ∷ codes " ss" ∷ []) ≡ refused SpellingClash 3 2
clashing_spellings = refl

pub lone_minimum : of_lines (codes " 1" ∷ []) ≡ refused BadMinima 1 3
lone_minimum = refl

pub blank_head : table (10 ∷ []) ≡ Ok (record { left = 2; right = 3; marks = codes ".-*?"; spellings = [] })
blank_head = refl

pub blank_left_pair : of_lines (codes "  x " ∷ []) ≡ refused BadMinima 1 1
blank_left_pair = refl

pub no_left_minimum : of_lines (codes "x   " ∷ []) ≡ refused BadMinima 1 1
no_left_minimum = refl

pub zero_minimum : of_lines (codes "0 1 " ∷ []) ≡ refused BadMinima 1 1
zero_minimum = refl

pub two_zeros : of_lines (codes "00 1" ∷ []) ≡ refused BadMinima 1 1
two_zeros = refl

pub two_digits : of_lines (codes "991 " ∷ []) ≡ Ok (record { left = 99; right = 1; marks = codes ".-*?"; spellings = [] })
two_digits = refl

pub pieces_end_at_an_empty_one : of_lines (codes " 1 1" ∷ codes "xaxbxxc" ∷ []) ≡ of_letters ((2, codes "a") ∷ (2, codes "b") ∷ [])
pieces_end_at_an_empty_one = refl

pub skipped_lines : of_lines (codes " 1 1" ∷ codes "  a" ∷ [] ∷ codes "   " ∷ codes "x" ∷ codes " a  b" ∷ []) ≡ of_letters ((2, codes "a") ∷ [])
skipped_lines = refl

pub blanks_at_the_end : table (codes " 1 1" ++ 10 ∷ codes "xa " ++ 13 ∷ 10 ∷ []) ≡ of_letters ((2, codes "a") ∷ [])
blanks_at_the_end = refl

pub a_digit_past_the_first_byte : of_lines (codes " 1 1" ∷ codes " a" ∷ codes " ^^e4" ∷ []) ≡ of_letters ((2, codes "a") ∷ (3, codes "^^e4") ∷ [])
a_digit_past_the_first_byte = refl

pub eight_bytes : of_lines (codes " 1 1" ∷ codes " abcdefgh" ∷ []) ≡ of_letters ((2, codes "abcdefgh") ∷ [])
eight_bytes = refl

pub nine_bytes : of_lines (codes " 1 1" ∷ codes " abcdefghi" ∷ []) ≡ refused BadSpelling 2 2
nine_bytes = refl

pub second_spelling_begins_with_a_mark : of_lines (codes " 1 1" ∷ codes " a ?b" ∷ []) ≡ refused BadSpelling 2 4
second_spelling_begins_with_a_mark = refl

pub begins_with_a_brace : of_lines (codes " 1 1" ∷ codes " {a" ∷ []) ≡ refused BadSpelling 2 2
begins_with_a_brace = refl

pub one_spelling_of_two_letters : of_lines (codes " 1 1" ∷ codes " a" ∷ codes " b a" ∷ []) ≡ refused SpellingClash 3 4
one_spelling_of_two_letters = refl

pub one_spelling_twice : of_lines (codes " 1 1" ∷ codes " a a" ∷ []) ≡ of_letters ((2, codes "a") ∷ (2, codes "a") ∷ [])
one_spelling_twice = refl

pub a_mark_equal_to_an_earlier_one : of_lines (codes " 1 1   -" ∷ []) ≡ refused BadMark 1 8
a_mark_equal_to_an_earlier_one = refl

pub default_marks_clash : of_lines (codes " 1 1-" ∷ []) ≡ refused BadMark 1 6
default_marks_clash = refl

pub a_question_mark_before_the_fourth : of_lines (codes " 1 1  ?" ∷ []) ≡ refused BadMark 1 8
a_question_mark_before_the_fourth = refl

pub a_brace_is_no_mark : of_lines (codes " 1 1{" ∷ []) ≡ refused BadMark 1 5
a_brace_is_no_mark = refl

-- what the items of a line mean
abbrev meanings : Place → List ℕ → List Token
meanings place line = map (λ i. i.1.0) (items_of abc place line)

pub marks_and_weights : meanings Dictionary (codes "{250}a.b-2c*?a{12}9 x") ≡ Weight 250 ∷ Letter 2 ∷ Marked Error ∷ Letter 3 ∷ Marked Missed
    ∷ Digit 2 ∷ Letter 4 ∷ Marked Found ∷ Marked DontCare ∷ Letter 2 ∷ Weight 12 ∷ Digit 9 ∷ []
marks_and_weights = refl

pub refused_letter : items_of abc Dictionary (codes "ad") ≡ (1, (Letter 2, codes "a")) ∷ []
refused_letter = refl

pub refused_there : line_refusal Dictionary 7 (codes "ad") (items_of abc Dictionary (codes "ad")) ≡ Some (refusal_at 7 DictionaryCharacter 2)
refused_there = refl

-- the items of a dictionary line that stops after ab-
abbrev three_items : List (ℕ × (Token × List ℕ))
three_items = (1, (Letter 2, codes "a")) ∷ (2, (Letter 3, codes "b")) ∷ (3, (Marked Missed, codes "-")) ∷ []

pub weight_zero : items_of abc Dictionary (codes "ab-{0}c") ≡ three_items
weight_zero = refl

pub open_weight : items_of abc Dictionary (codes "ab-{12c") ≡ three_items
open_weight = refl

pub long_weight : items_of abc Dictionary (codes "ab-{12345}c") ≡ three_items
long_weight = refl

pub long_weight_refused : line_refusal Dictionary 1 (codes "ab-{12345}c") three_items ≡ Some (refusal_at 1 BadWeight 4)
long_weight_refused = refl

pub zeros_before_a_weight : item_at abc Dictionary (codes "{0012}c") ≡ Some (Weight 12, codes "{0012}")
zeros_before_a_weight = refl

pub edges_in_a_pattern : meanings Patterns (codes ".a10b.") ≡ Edge ∷ Letter 2 ∷ Digit 1 ∷ Digit 0 ∷ Letter 3 ∷ Edge ∷ []
edges_in_a_pattern = refl

pub no_mark_in_a_pattern : items_of abc Patterns (codes "a-b") ≡ (1, (Letter 2, codes "a")) ∷ []
no_mark_in_a_pattern = refl

pub no_weight_in_a_pattern : item_at abc Patterns (codes "{1}") ≡ None
no_weight_in_a_pattern = refl

pub columns_count_bytes : items_of (record { left = 1; right = 1; marks = codes ".-*?"; spellings = (2, 195 ∷ 164 ∷ []) ∷ (3, codes "b") ∷ [] }) Patterns (195 ∷ 164 ∷ 98 ∷ 195 ∷ [])
    ≡ (1, (Letter 2, 195 ∷ 164 ∷ [])) ∷ (3, (Letter 3, codes "b")) ∷ []
columns_count_bytes = refl

pub minima_of_the_default_table : map (positions 2 3) (6 ∷ 7 ∷ 8 ∷ []) ≡ [] ∷ (3 ∷ []) ∷ (3 ∷ 4 ∷ []) ∷ []
minima_of_the_default_table = refl
