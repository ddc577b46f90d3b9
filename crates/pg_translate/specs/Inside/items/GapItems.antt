-- The gaps between two signs, the number and the mark that an item is, and the last of some.
use Rattle.std.specs.Prelude.{ℕ, ◌-◌, List, fold, length, slice_range, Option, None, Some}
use Rattle.pg_types.specs.declared.marks.Mark.{Mark}
use Rattle.pg_translate.specs.Tokens.{Token, Digit, Weight, Marked}
use Rattle.pg_translate.specs.Gaps.{gaps}

-- the gaps between two signs: all but the first and the last
abbrev pub inner_gaps : List Token → List (List Token)
inner_gaps items = slice_range (gaps items) 1 (length (gaps items) - 1)

-- the number that an item is: a digit or a weight in braces
abbrev pub number_of : Token → Option ℕ
number_of (Digit digit) = Some digit
number_of (Weight weight) = Some weight
number_of item = None

-- the mark that an item is
abbrev pub mark_of : Token → Option Mark
mark_of (Marked mark) = Some mark
mark_of item = None

-- the last of a list, else what is given
abbrev pub last_else : {X : Type 0} → X → List X → X
last_else given xs = fold (λ _ x. x) given xs
