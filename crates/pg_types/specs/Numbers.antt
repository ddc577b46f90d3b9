-- The number that decimal digits write.
use Rattle.std.specs.Prelude.{ℕ, ◌+◌, ◌-◌, ◌*◌, if◌then◌else◌, List, fold, Option, None, Some}
use Rattle.std.specs.List.{list_all}
use Rattle.std.specs.Char.{is_ascii_digit}

-- a number so far with one more digit
abbrev pub with_digit : ℕ → ℕ → ℕ
with_digit n b = n * 10 + (b - 48)

-- the number that an item is, where all its bytes are digits
abbrev pub number : List ℕ → Option ℕ
number item = if list_all is_ascii_digit item then Some (fold with_digit 0 item) else None
