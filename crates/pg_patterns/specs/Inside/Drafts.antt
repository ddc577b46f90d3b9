-- What was read so far of a line of a pattern file.
use Rattle.std.specs.Prelude.{◌≡◌, ℕ, ◌-◌, ◌<◌, ◌≤◌, List, [], ◌∷◌, ◌++◌, length, fold, Option, Result, Ok}
use Rattle.std.specs.List.{All}
use Rattle.pg_types.specs.declared.limits.TheConstants.{EDGE, LEVEL_MAX, PATTERN_SIGNS_MAX}
use Rattle.pg_types.specs.declared.refusals.Refusal.{Refusal}
use Rattle.pg_types.specs.Inside.Signs.{SignsWithin}
use Rattle.pg_types.specs.ValuesOrRefusals.{unless}
use Rattle.pg_translate.specs.declared.items.Place.TheVariants.{Patterns}
use Rattle.pg_translate.specs.Alphabets.{Alphabet}
use Rattle.pg_translate.specs.Tokens.{Token, Letter, Digit, Weight, Marked, Edge}
use Rattle.pg_translate.specs.Inside.items.Cuts.{Cut, tokens_of}
use Rattle.pg_translate.specs.Inside.items.Rests.{cut_rest}
use Rattle.pg_translate.specs.Inside.items.Refusing.{of_line, refusal_with_room}
use Rattle.pg_patterns.specs.Inside.EntryLines.{digit_at_dot, entries_at}

-- the signs, the dots before them with their digits, and the last digit behind the last sign
pub record Draft : Type 0 where
  pub signs : List ℕ
  pub digits : List (ℕ × ℕ)
  pub digit : ℕ

-- the draft of a line of which nothing was read yet
abbrev pub no_draft : Draft
no_draft = record { signs = []; digits = []; digit = 0 }

-- all dots with their digits
abbrev pub all_digits : Draft → List (ℕ × ℕ)
all_digits d = d.digits ++ digit_at_dot (length d.signs) d.digit

-- the draft with one sign more
abbrev pub draft_with_sign : Draft → ℕ → Draft
draft_with_sign d sign = record { signs = d.signs ++ sign ∷ []; digits = all_digits d; digit = 0 }

-- the draft with this digit in place of the last one behind its last sign
abbrev pub draft_with_digit : Draft → ℕ → Draft
draft_with_digit d digit = record { signs = d.signs; digits = d.digits; digit = digit }

-- the draft with one item more
abbrev pub with_token : Draft → Token → Draft
with_token d (Letter sign) = draft_with_sign d sign
with_token d (Digit digit) = draft_with_digit d digit
with_token d (Weight weight) = d
with_token d (Marked mark) = d
with_token d Edge = draft_with_sign d EDGE

-- the entries of a line that ends here
abbrev pub draft_entries : Draft → List ((List ℕ × ℕ) × ℕ)
draft_entries d = entries_at d.signs (all_digits d)

-- the refusal of the rest of a line, behind so many signs
abbrev pub refusal_after : ℕ → ℕ → Cut → Option Refusal
refusal_after n line c = refusal_with_room Patterns line (PATTERN_SIGNS_MAX - n) c

-- the draft when a line of this size is read on from a draft, where `rest` is left of the line
abbrev pub draft_left : Alphabet → ℕ → ℕ → Draft → List ℕ → Result Draft Refusal
draft_left t line size d rest =
    let c = cut_rest t Patterns size rest in
    unless (refusal_after (length d.signs) line c) (fold with_token d (tokens_of c))

-- an item was taken: the new draft and rest read on to the same as the old ones, and less is left
abbrev pub ReadsOn : (Draft → List ℕ → Result Draft Refusal)
    → Draft → List ℕ → Draft → List ℕ → Type 0
ReadsOn read old rest new after = (read old rest ≡ read new after) × (length after < length rest)

-- no item was taken: the line ends with its draft
abbrev pub EndsWith : (Draft → List ℕ → Result Draft Refusal) → Draft → List ℕ → Draft → Type 0
EndsWith read old rest new = (read old rest ≡ Ok old) × (new ≡ old)

-- the draft of a whole line
abbrev pub line_draft : Alphabet → ℕ → List ℕ → Result Draft Refusal
line_draft t line text = of_line (fold with_token no_draft) t Patterns line text

-- a dot before the n-th sign, and a digit that is a value
abbrev pub IsDotDigit : ℕ → ℕ × ℕ → Type 0
IsDotDigit n x = (x.0 < n) × (1 ≤ x.1) × (x.1 ≤ LEVEL_MAX)

-- what every draft keeps, whose signs are at most n
pub record IsDraft (n : ℕ) (d : Draft) : Type 0 where
  pub few : length d.signs ≤ PATTERN_SIGNS_MAX
  pub signs : SignsWithin n d.signs
  pub digits : All (IsDotDigit (length d.signs)) d.digits
  pub digit : d.digit ≤ LEVEL_MAX
