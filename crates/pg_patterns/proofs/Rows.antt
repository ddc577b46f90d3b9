-- What the definitions give of small files.
use Rattle.std.specs.Prelude.{◌≡◌, ℕ, List, [], ◌∷◌, ◌++◌, map, length, Result, Ok, Err, refl, codes, replicate}
use Rattle.std.specs.List.{concat}
use Rattle.pg_types.specs.declared.refusals.Kind.{Kind}
use Rattle.pg_types.specs.declared.refusals.Kind.TheVariants.{PatternCharacter, PatternTooLong}
use Rattle.pg_types.specs.declared.refusals.Refusal.{Refusal}
use Rattle.pg_types.specs.ValuesOrRefusals.{refusal_at}
use Rattle.pg_translate.specs.Alphabets.{Alphabet}
use Rattle.pg_patterns.specs.Values.{value_at}
use Rattle.pg_patterns.specs.Starts.{start}
use Rattle.pg_patterns.specs.Texts.{pattern_text}

-- the table of the letters a, b and c
abbrev abc : Alphabet
abc = record { left = 1; right = 1; marks = codes ".-*?"; spellings = (2, codes "a") ∷ (3, codes "b") ∷ (4, codes "c") ∷ [] }

-- the lines of a file
abbrev file : List (List ℕ) → List ℕ
file texts = concat (map (λ line. line ++ 10 ∷ []) texts)

-- a function of what is given, or the refusal
abbrev given : {X Y : Type 0} → (X → Y) → Result X Refusal → Result Y Refusal
given f (Ok x) = Ok (f x)
given f (Err r) = Err r

-- the text of the map of a file of these lines
abbrev written : List (List ℕ) → Result (List ℕ) Refusal
written texts = given (pattern_text abc) (start abc (file texts))

abbrev refused : {X : Type 0} → Kind → ℕ → ℕ → Result X Refusal
refused kind line column = Err (refusal_at line kind column)

abbrev starting : List ((List ℕ × ℕ) × ℕ)
starting = ((1 ∷ 2 ∷ [], 2), 1) ∷ ((2 ∷ 3 ∷ [], 1), 2) ∷ ((3 ∷ 4 ∷ [], 1), 1) ∷ []

pub starting_patterns : start abc (file (codes "b1c" ∷ codes "a2b" ∷ codes "a1b" ∷ codes ".a1" ∷ [])) ≡ Ok starting
starting_patterns = refl

pub starting_text : pattern_text abc starting ≡ file (codes ".a1" ∷ codes "a2b" ∷ codes "b1c" ∷ [])
starting_text = refl

pub value_of_starting : value_at starting (1 ∷ 2 ∷ 3 ∷ 2 ∷ 1 ∷ []) 2 ≡ 2
value_of_starting = refl

pub no_value_of_starting : value_at starting (1 ∷ 2 ∷ 3 ∷ 2 ∷ 1 ∷ []) 3 ≡ 0
no_value_of_starting = refl

pub last_digit_zero : written (codes "a10b" ∷ []) ≡ Ok []
last_digit_zero = refl

pub last_digit_one : written (codes "a01b" ∷ codes "a31b" ∷ []) ≡ Ok (codes "a1b" ++ 10 ∷ [])
last_digit_one = refl

pub zero_takes_nothing_away : written (codes "a1b" ∷ codes "a0b" ∷ []) ≡ Ok (codes "a1b" ++ 10 ∷ [])
zero_takes_nothing_away = refl

pub lines_without_effect : written (codes "1" ∷ codes "ab" ∷ codes "a0b" ∷ codes " 2" ∷ [] ∷ []) ≡ Ok []
lines_without_effect = refl

pub two_dots_of_a_string : written (codes "a1bc" ∷ codes "ab1c" ∷ codes "a3b" ∷ codes "1a2.b4 x" ∷ []) ≡ Ok (file (codes "1a2.b4" ∷ codes "a3b" ∷ codes "a1b1c" ∷ []))
two_dots_of_a_string = refl

pub every_dot : given length (start abc (49 ∷ concat (replicate 32 (codes "a1")))) ≡ Ok 33
every_dot = refl

pub sign_too_many : start abc (replicate 33 97) ≡ refused PatternTooLong 1 33
sign_too_many = refl

pub sign_too_many_first : start abc (replicate 33 97 ++ codes "-") ≡ refused PatternTooLong 1 33
sign_too_many_first = refl

pub signs_behind_a_blank : start abc (replicate 32 97 ++ codes " a-") ≡ Ok []
signs_behind_a_blank = refl

pub byte_of_no_item : start abc (file (codes "a1b" ∷ codes "a-b" ∷ codes "a{" ∷ [])) ≡ refused PatternCharacter 2 2
byte_of_no_item = refl

pub brace_of_no_item : start abc (codes "a{1}b") ≡ refused PatternCharacter 1 2
brace_of_no_item = refl

pub return_inside : start abc (codes "a1b" ++ 13 ∷ 13 ∷ 10 ∷ []) ≡ refused PatternCharacter 1 4
return_inside = refl

abbrev two_spellings : Alphabet
two_spellings = record { left = 1; right = 1; marks = codes ".-*?"; spellings = (2, codes "x") ∷ (2, codes "ss") ∷ (3, codes "s") ∷ (3, codes "S") ∷ [] }

pub first_spelling_written : given (pattern_text two_spellings) (start two_spellings (codes "1ss2S")) ≡ Ok (codes "1x2s" ++ 10 ∷ [])
first_spelling_written = refl
