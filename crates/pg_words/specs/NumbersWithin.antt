-- The number that an argument of a call is.
use Rattle.std.specs.Prelude.{ℕ, nat_lt, nat_le, ◌&&◌, if◌then◌else◌, List, length, Option, None, Some}
use Rattle.std.specs.Option.{option_and_then}
use Rattle.pg_types.specs.Numbers.{number}

-- the number that an argument of at most so many decimal digits is, where it is within these bounds
abbrev pub number_within : ℕ → ℕ → ℕ → List ℕ → Option ℕ
number_within digits least most argument =
    if nat_lt 0 (length argument) && nat_le (length argument) digits then option_and_then
    (λ n. if nat_le least n && nat_le n most then Some n else None) (number argument) else None
