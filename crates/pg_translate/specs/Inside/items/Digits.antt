-- The digits of a gap.
use Rattle.std.specs.Prelude.{ℕ, List, Option, None, Some}
use Rattle.std.specs.List.{filter_map}
use Rattle.pg_translate.specs.Tokens.{Token, Digit}
use Rattle.pg_translate.specs.Inside.items.GapItems.{last_else}

-- the digit that an item is
abbrev pub digit_of : Token → Option ℕ
digit_of (Digit digit) = Some digit
digit_of item = None

-- the last digit of a gap, 0 where there is none
abbrev pub last_digit : List Token → ℕ
last_digit gap = last_else 0 (filter_map digit_of gap)
