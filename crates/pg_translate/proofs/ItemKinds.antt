-- Which items the lines of a dictionary and of patterns do not have.
use Rattle.std.proofs.Common.{◌≡◌, ℕ, ◌+◌, ◌-◌, ◌==◌, nat_lt, nat_le, ◌&&◌, Bool, true, false, if◌then◌else◌, List, [], ◌∷◌}
use Rattle.std.proofs.Common.{◌++◌, length, drop, fold, slice_index, find, Option, Some, None, option_map, refl, ap, suc, zero, nat_eq}
use Rattle.std.specs.Prelude.{take_while, codes}
use Rattle.std.specs.List.{starts_with, list_all}
use Rattle.pg_types.specs.Numbers.{with_digit}
use Rattle.pg_translate.specs.declared.weights.TheConstants.{WEIGHT_DIGITS_MAX}
use Rattle.std.proofs.lemmas.Bool.{and_from}
use Rattle.pg_translate.specs.Inside.items.Cuts.{Cut, cut_from, with_item, tokens_of}
use Rattle.std.specs.Option.{option_or, option_map_or}
use Rattle.pg_types.specs.declared.marks.Mark.{Mark}
use Rattle.pg_types.specs.declared.marks.Mark.TheVariants.{Error, Missed, Found, DontCare}
use Rattle.pg_translate.specs.declared.items.Place.TheVariants.{Dictionary, Patterns}
use Rattle.pg_translate.specs.Alphabets.{Alphabet}
use Rattle.pg_translate.specs.Inside.items.Answers.{HasItem}
use Rattle.std.specs.Char.{is_ascii_digit}
use Rattle.pg_translate.specs.Tokens.{Token, Letter, Digit, Weight, Marked, Edge}
use Rattle.pg_translate.specs.Inside.items.Kinds.{item_by_kind, letter_at, digit_at, weight_at, mark_at, edge_at}

-- an item of a pattern line is a letter, a digit or the edge
abbrev of_patterns : Option (Token × ℕ) → Bool
of_patterns None = true
of_patterns (Some (Letter sign, size)) = true
of_patterns (Some (Digit digit, size)) = true
of_patterns (Some (Weight weight, size)) = false
of_patterns (Some (Marked mark, size)) = false
of_patterns (Some (Edge, size)) = true

edge_of_patterns : (text : List ℕ) → of_patterns (edge_at text) ≡ true
edge_of_patterns [] = refl
edge_of_patterns (b ∷ bs) = elim (b == 46) as (λ s. of_patterns (if s then Some (Edge, 1) else None) ≡ true) [ true ↦ refl | false ↦ refl ]

digit_of_patterns : (text : List ℕ) → of_patterns (option_or (digit_at text) (edge_at text)) ≡ true
digit_of_patterns [] = refl
digit_of_patterns (b ∷ bs) = elim (is_ascii_digit b) as (λ s. of_patterns (option_or (if s then Some (Digit (b - 48), 1) else None) (edge_at (b ∷ bs)))
    ≡ true) [ true ↦ refl | false ↦ edge_of_patterns (b ∷ bs) ]

item_of_patterns : (t : Alphabet) (text : List ℕ) → of_patterns (item_by_kind t Patterns text) ≡ true
item_of_patterns t text =
    elim (find (λ spelling. starts_with nat_eq text spelling.1) t.spellings) as
    (λ o. of_patterns (option_or (option_map (λ spelling. (Letter spelling.0, length spelling.1)) o) (option_or (digit_at text) (edge_at text))) ≡ true) [
      | None ↦ digit_of_patterns text
      | Some spelling ↦ refl
    ]

-- an item that is no weight
abbrev pub is_plain : Token → Bool
is_plain (Weight weight) = false
is_plain item = true

item_plain : (token : Token) (size : ℕ) → of_patterns (Some (token, size)) ≡ true → is_plain token ≡ true
item_plain (Letter sign) size is = refl
item_plain (Digit digit) size is = refl
item_plain (Weight weight) size is = is
item_plain (Marked mark) size is = refl
item_plain Edge size is = refl

cut_plain : (column : ℕ) (text : List ℕ) (o : Option (Token × ℕ)) → of_patterns o ≡ true → (behind : Token × ℕ → Cut) → ((item : Token × ℕ) → list_all is_plain (tokens_of (behind item)) ≡ true)
    → list_all is_plain (tokens_of (option_map_or (λ item. with_item column item.0 (behind item)) o (record { items = []; column = column; rest = text }))) ≡ true
cut_plain column text None is behind later = refl
cut_plain column text (Some item) is behind later = and_from _ _ (item_plain item.0 item.1 is) (later item)

-- a line of patterns has no weight
pub no_weight : (t : Alphabet) (most column : ℕ) (text : List ℕ) → list_all is_plain (tokens_of (cut_from t Patterns most column text)) ≡ true
no_weight t zero column text = refl
no_weight t (suc more) column text = cut_plain column text (item_by_kind t Patterns text) (item_of_patterns t text) (λ item. cut_from t Patterns more (column + item.1) (drop item.1 text))
    (λ item. no_weight t more (column + item.1) (drop item.1 text))

pub no_mark : (t : Alphabet) (rest after : List ℕ) (mark : Mark) → HasItem t Patterns rest (Marked mark) after → ⊥
no_mark t rest after mark takes = cc (ap of_patterns takes.found, item_of_patterns t rest)

-- an item of a dictionary line is not the edge
abbrev of_dictionary : Option (Token × ℕ) → Bool
of_dictionary None = true
of_dictionary (Some (Letter sign, size)) = true
of_dictionary (Some (Digit digit, size)) = true
of_dictionary (Some (Weight weight, size)) = true
of_dictionary (Some (Marked mark, size)) = true
of_dictionary (Some (Edge, size)) = false

either_of_dictionary : (o p : Option (Token × ℕ)) → of_dictionary o ≡ true → of_dictionary p ≡ true → of_dictionary (option_or o p) ≡ true
either_of_dictionary None p first second = second
either_of_dictionary (Some x) p first second = first

letter_of_dictionary : (t : Alphabet) (text : List ℕ) → of_dictionary (letter_at t.spellings text) ≡ true
letter_of_dictionary t text = elim (find (λ spelling. starts_with nat_eq text spelling.1) t.spellings) as
    (λ o. of_dictionary (option_map (λ spelling. (Letter spelling.0, length spelling.1)) o) ≡ true) [ None ↦ refl | Some spelling ↦ refl ]

digit_of_dictionary : (text : List ℕ) → of_dictionary (digit_at text) ≡ true
digit_of_dictionary [] = refl
digit_of_dictionary (b ∷ bs) = elim (is_ascii_digit b) as (λ s. of_dictionary (if s then Some (Digit (b - 48), 1) else None) ≡ true) [ true ↦ refl | false ↦ refl ]

weight_of_dictionary : (text : List ℕ) → of_dictionary (weight_at text) ≡ true
weight_of_dictionary text =
    let digits : List ℕ = take_while is_ascii_digit (drop 1 text) in
    elim (starts_with nat_eq text (codes "{" ++ digits ++ codes "}") && nat_le (length digits) WEIGHT_DIGITS_MAX && nat_lt 0 (fold with_digit 0 digits)) as
    (λ s. of_dictionary (if s then Some (Weight (fold with_digit 0 digits), length digits + 2) else None) ≡ true) [ true ↦ refl | false ↦ refl ]

mark_of_dictionary : (marks text : List ℕ) → of_dictionary (mark_at marks text) ≡ true
mark_of_dictionary marks [] = refl
mark_of_dictionary marks (b ∷ bs) = by_tests (b == slice_index marks 0) (b == slice_index marks 1) (b == slice_index marks 2) (b == slice_index marks 3)
  where
    by_tests : (first second third fourth : Bool) → of_dictionary (if first then Some (Marked Error, 1) else if second then Some (Marked Missed, 1) else if third then Some
        (Marked Found, 1) else if fourth then Some (Marked DontCare, 1) else None) ≡ true
    by_tests true second third fourth = refl
    by_tests false true third fourth = refl
    by_tests false false true fourth = refl
    by_tests false false false true = refl
    by_tests false false false false = refl

item_of_dictionary : (t : Alphabet) (text : List ℕ) → of_dictionary (item_by_kind t Dictionary text) ≡ true
item_of_dictionary t text =
    either_of_dictionary _ _ (letter_of_dictionary t text) (either_of_dictionary _ _ (digit_of_dictionary text)
    (either_of_dictionary _ _ (weight_of_dictionary text) (mark_of_dictionary t.marks text)))

pub no_edge : (t : Alphabet) (rest after : List ℕ) → HasItem t Dictionary rest Edge after → ⊥
no_edge t rest after takes = cc (ap of_dictionary takes.found, item_of_dictionary t rest)
