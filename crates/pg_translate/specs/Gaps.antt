-- The signs of a line, and its gaps: the items before, between and behind the signs.
use Rattle.std.specs.Prelude.{ℕ, List, fold, Option, None, Some}
use Rattle.std.specs.Option.{is_some}
use Rattle.std.specs.List.{filter_map, slice_split}
use Rattle.pg_types.specs.declared.limits.TheConstants.{EDGE}
use Rattle.pg_types.specs.declared.marks.Mark.{Mark}
use Rattle.pg_types.specs.declared.marks.Mark.TheVariants.{Nothing}
use Rattle.pg_translate.specs.Tokens.{Token, Letter, Digit, Weight, Marked, Edge}

-- the sign that an item stands for: that of a letter, or of the edge
abbrev pub sign_of : Token → Option ℕ
sign_of item = elim item [ Letter sign ↦ Some sign | Edge ↦ Some EDGE | other ↦ None ]

-- the signs of a line
abbrev pub signs_of : List Token → List ℕ
signs_of items = filter_map sign_of items

-- the gaps of a line: the items before its first sign, between two signs, and behind its last sign
abbrev pub gaps : List Token → List (List Token)
gaps items = slice_split (λ item. is_some (sign_of item)) items

-- the last number of a gap, a digit or a weight in braces, else what is given
abbrev pub last_number : ℕ → List Token → ℕ
last_number given gap = fold (λ _ n. n) given (filter_map
    (λ item. elim item [ Digit n ↦ Some n | Weight n ↦ Some n | other ↦ None ]) gap)

-- the last mark of a gap; nothing where there is none
abbrev pub last_mark : List Token → Mark
last_mark gap = fold (λ _ mark. mark) Nothing
    (filter_map (λ item. elim item [ Marked mark ↦ Some mark | other ↦ None ]) gap)
