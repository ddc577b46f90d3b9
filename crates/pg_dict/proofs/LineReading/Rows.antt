-- What the definition of words gives of small dictionaries.
use Rattle.std.specs.Prelude.{◌≡◌, ℕ, Bool, true, false, List, [], ◌∷◌, ◌++◌, map, replicate, flat_map, Result, Ok, Err, refl, codes}
use Rattle.std.specs.List.{concat}
use Rattle.pg_types.specs.declared.refusals.Kind.{Kind}
use Rattle.pg_types.specs.declared.refusals.Kind.TheVariants.{DictionaryCharacter, WordTooLong, BadWeight}
use Rattle.pg_types.specs.declared.refusals.Refusal.{Refusal}
use Rattle.pg_types.specs.ValuesOrRefusals.{refusal_at}
use Rattle.pg_translate.specs.Alphabets.{Alphabet}
use Rattle.pg_dict.specs.Word.{Word}
use Rattle.pg_dict.specs.DictionaryWords.{words}

-- the table of the letters a, b and c
abbrev abc : Alphabet
abc = record { left = 1; right = 1; marks = codes ".-*?"; spellings = (2, codes "a") ∷ (3, codes "b") ∷ (4, codes "c") ∷ [] }

-- a line with its line feed
abbrev ended : List ℕ → List ℕ
ended line = line ++ 10 ∷ []

-- the words of these lines
abbrev of_lines : List (List ℕ) → Result (List Word) Refusal
of_lines lines = words abc (concat (map ended lines))

-- the refusal of a dictionary
abbrev refusal : Kind → ℕ → ℕ → Result (List Word) Refusal
refusal kind line column = Err (refusal_at line kind column)

-- a position without mark and number in a word of this weight, and one with a hyphen
abbrev plain : ℕ → Bool × ℕ × Bool
plain weight = (false, weight, true)

abbrev hyphen : ℕ → Bool × ℕ × Bool
hyphen weight = (true, weight, true)

-- a word of this weight, with these signs and the hyphen, weight and care of each position
abbrev word : ℕ → List ℕ → List (Bool × ℕ × Bool) → Word
word weight signs positions = record {
  signs = signs;
  hyphens = map (λ (p : Bool × ℕ × Bool). p.0) positions;
  weights = map (λ (p : Bool × ℕ × Bool). p.1) positions;
  cares = map (λ (p : Bool × ℕ × Bool). p.2) positions;
  weight = weight;
}

-- the words abc, aba and ab-c of this weight
abbrev abc_word : ℕ → Word
abc_word n = word n (1 ∷ 2 ∷ 3 ∷ 4 ∷ 1 ∷ []) (plain n ∷ plain n ∷ plain n ∷ plain n ∷ plain n ∷ [])

abbrev ab-a : ℕ → Word
ab-a n = word n (1 ∷ 2 ∷ 3 ∷ 2 ∷ 1 ∷ []) (plain n ∷ plain n ∷ plain n ∷ hyphen n ∷ plain n ∷ [])

-- the word ab-c with this weight at its hyphen
abbrev ab-c : ℕ → ℕ → Word
ab-c n weight = word n (1 ∷ 2 ∷ 3 ∷ 4 ∷ 1 ∷ []) (plain n ∷ plain n ∷ plain n ∷ hyphen weight ∷ plain n ∷ [])

-- the signs of all words
abbrev signs_of : List Word → List ℕ
signs_of ws = flat_map (λ (w : Word). w.signs) ws

pub running_word_weights : of_lines (codes "3ab-c" ∷ codes "ab-a" ∷ codes "1abc" ∷ []) ≡ Ok (ab-c 3 3 ∷ ab-a 3 ∷ abc_word 1 ∷ [])
running_word_weights = refl

pub marks_and_weights : of_lines (codes "a-2b*c.a" ∷ []) ≡ Ok (word 1 (1 ∷ 2 ∷ 3 ∷ 4 ∷ 2 ∷ 1 ∷ []) (plain 1 ∷ plain 1 ∷ hyphen 2 ∷ hyphen 1 ∷ plain 1 ∷ plain 1 ∷ []) ∷ [])
marks_and_weights = refl

pub cr_at_the_end : words abc (codes "ab-c x?" ++ 13 ∷ 10 ∷ codes "ab-a" ++ 13 ∷ []) ≡ Ok (ab-c 1 1 ∷ ab-a 1 ∷ [])
cr_at_the_end = refl

pub cr_inside_a_line : of_lines ((97 ∷ 13 ∷ 98 ∷ []) ∷ []) ≡ refusal DictionaryCharacter 1 2
cr_inside_a_line = refl

pub tab_ends_a_word : of_lines ((97 ∷ 98 ∷ 45 ∷ 99 ∷ 9 ∷ 120 ∷ []) ∷ []) ≡ Ok (ab-c 1 1 ∷ [])
tab_ends_a_word = refl

pub no_such_letter : of_lines (codes "abc" ∷ codes "cba" ∷ codes "ad" ∷ []) ≡ refusal DictionaryCharacter 3 2
no_such_letter = refl

pub one_letter_too_many : of_lines (replicate 101 97 ∷ []) ≡ refusal WordTooLong 1 101
one_letter_too_many = refl

pub too_many_before_bad : of_lines ((codes "3" ++ replicate 101 97 ++ codes "{") ∷ []) ≡ refusal WordTooLong 1 102
too_many_before_bad = refl

pub bad_before_too_many : of_lines ((replicate 100 97 ++ codes "{a") ∷ []) ≡ refusal BadWeight 1 101
bad_before_too_many = refl

-- a word of a hundred letters a
abbrev hundred : Word
hundred = word 1 (1 ∷ replicate 100 2 ++ 1 ∷ []) (replicate 102 (plain 1))

pub hundred_letters : of_lines (replicate 100 97 ∷ []) ≡ Ok (hundred ∷ [])
hundred_letters = refl

pub letters_behind_a_blank : of_lines ((replicate 100 97 ++ codes " a{") ∷ []) ≡ Ok (hundred ∷ [])
letters_behind_a_blank = refl

pub weight_zero_in_braces : of_lines (codes "ab-{0}c" ∷ []) ≡ refusal BadWeight 1 4
weight_zero_in_braces = refl

pub weight_without_end : of_lines (codes "ab-{12c" ∷ []) ≡ refusal BadWeight 1 4
weight_without_end = refl

pub weight_of_five_digits : of_lines (codes "ab-{12345}c" ∷ []) ≡ refusal BadWeight 1 4
weight_of_five_digits = refl

pub weights_in_braces : of_lines (codes "{250}ab-{12}c" ∷ codes "ab-a" ∷ []) ≡ Ok (ab-c 250 12 ∷ ab-a 250 ∷ [])
weights_in_braces = refl

pub leading_zeros : of_lines (codes "{0012}ab-{5}c" ∷ []) ≡ Ok (ab-c 12 5 ∷ [])
leading_zeros = refl

pub last_number_wins : of_lines (codes "ab-{12}3c" ∷ codes "ab3-0c" ∷ []) ≡ Ok (ab-c 1 3 ∷ ab-c 1 0 ∷ [])
last_number_wins = refl

pub last_mark_wins : of_lines (codes "a-2.b" ∷ codes "ab.?-c" ∷ []) ≡ Ok (word 1 (1 ∷ 2 ∷ 3 ∷ 1 ∷ []) (plain 1 ∷ plain 1 ∷ plain 2 ∷ plain 1 ∷ []) ∷ ab-c 1 1 ∷ [])
last_mark_wins = refl

pub dont_care : of_lines (codes "ab-?c" ∷ []) ≡ Ok (word 1 (1 ∷ 2 ∷ 3 ∷ 4 ∷ 1 ∷ []) (plain 1 ∷ plain 1 ∷ plain 1 ∷ (false, 1, false) ∷ plain 1 ∷ []) ∷ [])
dont_care = refl

pub outside_the_letters : of_lines (codes "-3?abc-?7" ∷ codes "abc" ∷ []) ≡ Ok (abc_word 3 ∷ abc_word 3 ∷ [])
outside_the_letters = refl

pub lines_without_a_letter : of_lines (codes "-{12}4?" ∷ codes "" ∷ codes " 5a" ∷ codes "abc" ∷ codes "999" ∷ []) ≡ Ok (abc_word 4 ∷ [])
lines_without_a_letter = refl

pub empty_dictionary : words abc [] ≡ Ok []
empty_dictionary = refl

pub all_signs : signs_of (ab-c 1 1 ∷ ab-a 1 ∷ []) ≡ 1 ∷ 2 ∷ 3 ∷ 4 ∷ 1 ∷ 1 ∷ 2 ∷ 3 ∷ 2 ∷ 1 ∷ []
all_signs = refl
