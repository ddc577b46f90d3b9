-- The item that begins a text, as its reader seeks it: kind by kind, with the size of its own text.
use Rattle.std.specs.Prelude.{ℕ, ◌+◌, ◌-◌, ◌==◌, nat_lt, nat_le, ◌&&◌, if◌then◌else◌, List, [], ◌∷◌, ◌++◌, length, drop, fold, take_while, slice_index, find, Option, None, Some, option_map, nat_eq, codes}
use Rattle.std.specs.List.{starts_with}
use Rattle.std.specs.Option.{option_or}
use Rattle.std.specs.Char.{is_ascii_digit}
use Rattle.pg_types.specs.Numbers.{with_digit}
use Rattle.pg_types.specs.declared.marks.Mark.TheVariants.{Error, Missed, Found, DontCare}
use Rattle.pg_translate.specs.declared.weights.TheConstants.{WEIGHT_DIGITS_MAX}
use Rattle.pg_translate.specs.declared.items.Place.{Place}
use Rattle.pg_translate.specs.declared.items.Place.TheVariants.{Dictionary, Patterns}
use Rattle.pg_translate.specs.Alphabets.{Alphabet}
use Rattle.pg_translate.specs.Tokens.{Token, Letter, Digit, Weight, Marked, Edge}

-- the letter whose spelling begins a text, and the length of that spelling
abbrev pub letter_at : List (ℕ × List ℕ) → List ℕ → Option (Token × ℕ)
letter_at spellings text = option_map (λ spelling. (Letter spelling.0, length spelling.1))
    (find (λ spelling. starts_with nat_eq text spelling.1) spellings)

-- the digit that begins a text
abbrev pub digit_at : List ℕ → Option (Token × ℕ)
digit_at [] = None
digit_at (b ∷ bs) = if is_ascii_digit b then Some (Digit (b - 48), 1) else None

-- the mark whose byte begins a text
abbrev pub mark_at : List ℕ → List ℕ → Option (Token × ℕ)
mark_at marks [] = None
mark_at marks (b ∷ bs) = if b == slice_index marks 0 then Some (Marked Error, 1)
    else if b == slice_index marks 1 then Some (Marked Missed, 1)
    else if b == slice_index marks 2 then Some (Marked Found, 1)
    else if b == slice_index marks 3 then Some (Marked DontCare, 1) else None

-- the weight in braces that begins a text: one to four digits, with a value above 0
abbrev pub weight_at : List ℕ → Option (Token × ℕ)
weight_at text = let digits = take_while is_ascii_digit (drop 1 text) in
    let value = fold with_digit 0 digits in
    if starts_with nat_eq text (codes "{" ++ digits ++ codes "}")
    && nat_le (length digits) WEIGHT_DIGITS_MAX && nat_lt 0 value
    then Some (Weight value, length digits + 2) else None

-- the dot of the edge, where it begins a text
abbrev pub edge_at : List ℕ → Option (Token × ℕ)
edge_at [] = None
edge_at (b ∷ bs) = if b == 46 then Some (Edge, 1) else None

-- the item that begins a text, and the length of its own text
abbrev pub item_by_kind : Alphabet → Place → List ℕ → Option (Token × ℕ)
item_by_kind t Dictionary text = option_or (letter_at t.spellings text)
    (option_or (digit_at text) (option_or (weight_at text) (mark_at t.marks text)))
item_by_kind t Patterns text = option_or (letter_at t.spellings text)
    (option_or (digit_at text) (edge_at text))
