-- The items that are found, with what follows them.
use Rattle.std.proofs.Common.{◌≡◌, ℕ, ◌-◌, ◌<◌, ◌≤◌, ◌==◌, true, false, ◌⊎◌, inl, inr, List, [], ◌∷◌, length, take, drop, get_or, Some, None, refl, arith}
use Rattle.std.proofs.lemmas.Bool.{ne_eqb}
use Rattle.std.proofs.lemmas.List.{take_rest}
use Rattle.pg_types.specs.declared.marks.Mark.{Mark}
use Rattle.pg_translate.specs.declared.items.Place.{Place}
use Rattle.pg_translate.specs.declared.items.Place.TheVariants.{Dictionary, Patterns}
use Rattle.pg_translate.specs.Alphabets.{Alphabet}
use Rattle.std.specs.Char.{is_ascii_digit}
use Rattle.pg_translate.specs.Tokens.{Token, Digit, Edge, Marked, is_ended}
use Rattle.pg_translate.specs.Inside.items.Kinds.{letter_at, digit_at, weight_at, mark_at, item_by_kind}
use Rattle.pg_translate.specs.Inside.items.Answers.{HasItem}
use Rattle.pg_translate.specs.Inside.tables.Rules.{KeepsRules}

-- an item of some bytes
pub takes : (t : Alphabet) → KeepsRules t → (place : Place) (text : List ℕ) (token : Token) (size : ℕ) → item_by_kind t place text ≡ Some (token, size) → 0 < size → size ≤ length text
    → HasItem t place text token (take (length text - size) (drop size text))
takes t rules place text token size found some within = record { rules = rules; size = size; found = found; some = some; within = within; behind = take_rest text size }

-- an item of one byte
pub takes_one : (t : Alphabet) → KeepsRules t → (place : Place) (text : List ℕ) (token : Token) → item_by_kind t place text ≡ Some (token, 1) → (length text == 0) ≡ false
    → HasItem t place text token (take (length text - 1) (drop 1 text))
takes_one t rules place [] token found some = absurd (cc)
takes_one t rules place (b ∷ bs) token found some = record { rules = rules; size = 1; found = found; some = omega arith; within = omega arith; behind = take_rest (b ∷ bs) 1 }

-- a letter, where a spelling stands
pub found_letter : (t : Alphabet) (place : Place) (text : List ℕ) (token : Token) (size : ℕ) → letter_at t.spellings text ≡ Some (token, size) → item_by_kind t place text ≡ Some (token, size)
found_letter t Dictionary text token size found = rw found refl
found_letter t Patterns text token size found = rw found refl

-- a digit, where no spelling stands
pub found_digit : (t : Alphabet) (place : Place) (text : List ℕ) → letter_at t.spellings text ≡ None → (length text == 0) ≡ false → is_ascii_digit (get_or text 0 0)
    ≡ true → item_by_kind t place text ≡ Some (Digit (get_or text 0 0 - 48), 1)
found_digit t place [] none some digit = absurd (cc)
found_digit t Dictionary (b ∷ bs) none some digit = rw (none, digit) refl
found_digit t Patterns (b ∷ bs) none some digit = rw (none, digit) refl

-- no digit
pub missed_digit : (text : List ℕ) → (length text == 0) ≡ false → is_ascii_digit (get_or text 0 0) ≡ false → digit_at text ≡ None
missed_digit [] some digit = refl
missed_digit (b ∷ bs) some digit = rw digit refl

-- a mark, where no spelling, digit or weight stands
pub found_mark : (t : Alphabet) (text : List ℕ) (mark : Mark) → letter_at t.spellings text ≡ None → digit_at text ≡ None → weight_at text ≡ None
    → mark_at t.marks text ≡ Some (Marked mark, 1) → item_by_kind t Dictionary text ≡ Some (Marked mark, 1)
found_mark t text mark none digit weight found = rw (none, digit, weight) found

-- a weight, where no spelling or digit stands
pub found_weight : (t : Alphabet) (text : List ℕ) (token : Token) (size : ℕ) → letter_at t.spellings text ≡ None → digit_at text ≡ None → weight_at text ≡ Some (token, size)
    → item_by_kind t Dictionary text ≡ Some (token, size)
found_weight t text token size none digit found = rw (none, digit, found) refl

-- a dot, where no spelling or digit stands
pub found_edge : (t : Alphabet) (text : List ℕ) → letter_at t.spellings text ≡ None → digit_at text ≡ None → (length text == 0) ≡ false → (get_or text 0 0 == 46) ≡ true
    → item_by_kind t Patterns text ≡ Some (Edge, 1)
found_edge t [] none digit some dot = absurd (cc)
found_edge t (b ∷ bs) none digit some dot = rw (none, digit, dot) refl

-- no item of a dictionary, where no spelling, digit, weight or mark stands
pub none_in_dictionary : (t : Alphabet) (text : List ℕ) → letter_at t.spellings text ≡ None → digit_at text ≡ None → weight_at text ≡ None → mark_at t.marks text ≡ None
    → item_by_kind t Dictionary text ≡ None
none_in_dictionary t text none digit weight mark = rw (none, digit, weight) mark

-- no item of patterns, where no spelling, digit or dot stands
pub none_in_patterns : (t : Alphabet) (text : List ℕ) → letter_at t.spellings text ≡ None → digit_at text ≡ None → (get_or text 0 0 == 46) ≡ false → item_by_kind t Patterns text ≡ None
none_in_patterns t [] none digit other = rw none refl
none_in_patterns t (b ∷ bs) none digit other = rw (none, digit, other) refl

-- a line ends at a blank or TAB
pub ends_there : (text : List ℕ) → (get_or text 0 0 ≡ 32) ⊎ ((get_or text 0 0 ≡ 32 → ⊥) × (get_or text 0 0 ≡ 9)) → is_ended text ≡ true
ends_there [] at = refl
ends_there (b ∷ bs) (inl blank) = rw blank refl
ends_there (b ∷ bs) (inr (other, tab)) = rw tab refl

-- a line goes on at another byte
pub goes_on : (text : List ℕ) → (length text == 0) ≡ false → (get_or text 0 0 ≡ 32 → ⊥) × (get_or text 0 0 ≡ 9 → ⊥) → is_ended text ≡ false
goes_on [] some other = absurd (cc)
goes_on (b ∷ bs) some other = rw (ne_eqb b 32 other.0, ne_eqb b 9 other.1) refl
