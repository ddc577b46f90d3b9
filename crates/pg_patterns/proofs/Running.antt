-- The digits of a line read item by item, with the last digit so far, are those of its gaps.
use Rattle.std.proofs.Common.{◌≡◌, ℕ, ◌+◌, List, [], ◌∷◌, ◌++◌, refl, sym, ap, ◌∙◌}
use Rattle.std.specs.List.{filter_map, onto_first}
use Rattle.std.proofs.lemmas.List.{append-nil}
use Rattle.pg_types.specs.declared.marks.Mark.{Mark}
use Rattle.pg_translate.specs.Tokens.{Token, Letter, Digit, Weight, Marked, Edge}
use Rattle.pg_translate.specs.Gaps.{gaps}
use Rattle.pg_translate.specs.Inside.items.GapItems.{last_else}
use Rattle.pg_translate.specs.Inside.items.Digits.{digit_of}
use Rattle.pg_translate.proofs.Gaps.{gaps_some}
use Rattle.pg_patterns.specs.Inside.EntryLines.{digit_at_dot, digits_at}

-- the dots with their digits from a dot on, where a digit was the last so far: of the digits at one dot the last counts
abbrev pub digits_from : ℕ → ℕ → List Token → List (ℕ × ℕ)
digits_from dot digit [] = digit_at_dot dot digit
digits_from dot digit (Letter sign ∷ tokens) = digit_at_dot dot digit ++ digits_from (dot + 1) 0 tokens
digits_from dot digit (Digit other ∷ tokens) = digits_from dot other tokens
digits_from dot digit (Weight weight ∷ tokens) = digits_from dot digit tokens
digits_from dot digit (Marked mark ∷ tokens) = digits_from dot digit tokens
digits_from dot digit (Edge ∷ tokens) = digit_at_dot dot digit ++ digits_from (dot + 1) 0 tokens

-- the digits of gaps, where a digit was the last so far at the first dot
abbrev behind_digit : ℕ → ℕ → List (List Token) → List (ℕ × ℕ)
behind_digit dot digit [] = digit_at_dot dot digit ++ []
behind_digit dot digit (gap ∷ more) = digit_at_dot dot (last_else digit (filter_map digit_of gap)) ++ digits_at (dot + 1) more

-- an item in front of the first gap
behind-digit : (dot digit other : ℕ) (gs : List (List Token)) → behind_digit dot other gs ≡ behind_digit dot digit (onto_first (Digit other) gs)
behind-digit dot digit other [] = refl
behind-digit dot digit other (gap ∷ more) = refl

behind-weight : (dot digit weight : ℕ) (gs : List (List Token)) → behind_digit dot digit gs ≡ behind_digit dot digit (onto_first (Weight weight) gs)
behind-weight dot digit weight [] = refl
behind-weight dot digit weight (gap ∷ more) = refl

behind-mark : (dot digit : ℕ) (mark : Mark) (gs : List (List Token)) → behind_digit dot digit gs ≡ behind_digit dot digit (onto_first (Marked mark) gs)
behind-mark dot digit mark [] = refl
behind-mark dot digit mark (gap ∷ more) = refl

-- no digit yet
behind-none : (dot : ℕ) (items : List Token) → behind_digit dot 0 (gaps items) ≡ digits_at dot (gaps items)
behind-none dot items = let p = gaps_some items in ap (behind_digit dot 0) p.2 ∙ sym (ap (digits_at dot) p.2)

digits_run : (dot digit : ℕ) (items : List Token) → digits_from dot digit items ≡ behind_digit dot digit (gaps items)
digits_run dot digit [] = sym (append-nil (digit_at_dot dot digit))
digits_run dot digit (Letter sign ∷ items) = ap (λ digits. digit_at_dot dot digit ++ digits) (digits_run (dot + 1) 0 items ∙ behind-none (dot + 1) items)
digits_run dot digit (Digit other ∷ items) = digits_run dot other items ∙ behind-digit dot digit other (gaps items)
digits_run dot digit (Weight weight ∷ items) = digits_run dot digit items ∙ behind-weight dot digit weight (gaps items)
digits_run dot digit (Marked mark ∷ items) = digits_run dot digit items ∙ behind-mark dot digit mark (gaps items)
digits_run dot digit (Edge ∷ items) = ap (λ digits. digit_at_dot dot digit ++ digits) (digits_run (dot + 1) 0 items ∙ behind-none (dot + 1) items)

-- the digits of a whole line
pub digits_are : (items : List Token) → digits_from 0 0 items ≡ digits_at 0 (gaps items)
digits_are items = digits_run 0 0 items ∙ behind-none 0 items
