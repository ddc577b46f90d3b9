-- What one line of a pattern file gives, and lines that are read one after the other.
use Rattle.std.specs.Prelude.{ℕ, ◌+◌, ◌==◌, if◌then◌else◌, List, [], ◌∷◌, ◌++◌, map, Result, Ok, Err}
use Rattle.pg_types.specs.declared.refusals.Refusal.{Refusal}
use Rattle.pg_types.specs.Inside.reading.Parts.{both_parts}
use Rattle.pg_translate.specs.declared.items.Place.TheVariants.{Patterns}
use Rattle.pg_translate.specs.Alphabets.{Alphabet}
use Rattle.pg_translate.specs.Tokens.{Token}
use Rattle.pg_translate.specs.Gaps.{signs_of, gaps}
use Rattle.pg_translate.specs.Inside.items.Digits.{last_digit}
use Rattle.pg_translate.specs.Inside.items.Refusing.{of_line}
use Rattle.pg_patterns.specs.Values.{map_of_entries}

-- the digit at a dot; 0 is none
abbrev pub digit_at_dot : ℕ → ℕ → List (ℕ × ℕ)
digit_at_dot dot digit = if digit == 0 then [] else (dot, digit) ∷ []

-- the dots of gaps with the last digit of each, where the first gap stands at this dot
abbrev pub digits_at : ℕ → List (List Token) → List (ℕ × ℕ)
digits_at dot [] = []
digits_at dot (gap ∷ more) = digit_at_dot dot (last_digit gap) ++ digits_at (dot + 1) more

-- the entry of these signs at a dot
abbrev pub entry_at : List ℕ → ℕ × ℕ → (List ℕ × ℕ) × ℕ
entry_at signs d = ((signs, d.0), d.1)

-- the entries of these signs at these dots; there is none without a sign
abbrev pub entries_at : List ℕ → List (ℕ × ℕ) → List ((List ℕ × ℕ) × ℕ)
entries_at [] digits = []
entries_at (sign ∷ signs) digits = map (entry_at (sign ∷ signs)) digits

-- the entries of a line: at dot i the value is the last digit of gap i
abbrev pub entries_of_items : List Token → List ((List ℕ × ℕ) × ℕ)
entries_of_items items = entries_at (signs_of items) (digits_at 0 (gaps items))

-- the entries of a line, or its refusal
abbrev pub entries_or_refusal : Alphabet → ℕ → List ℕ → Result (List ((List ℕ × ℕ) × ℕ)) Refusal
entries_or_refusal t line text = of_line entries_of_items t Patterns line text

-- the entries of these lines, the first of which has this number
abbrev pub entries_from : Alphabet → ℕ → List (List ℕ) → Result (List ((List ℕ × ℕ) × ℕ)) Refusal
entries_from t line [] = Ok []
entries_from t line (text ∷ texts) = both_parts (entries_or_refusal t line text)
    (entries_from t (line + 1) texts)

-- the map of the entries, or the refusal
abbrev pub joined_entries : Result (List ((List ℕ × ℕ) × ℕ)) Refusal
    → Result (List ((List ℕ × ℕ) × ℕ)) Refusal
joined_entries (Ok es) = Ok (map_of_entries es)
joined_entries (Err r) = Err r
