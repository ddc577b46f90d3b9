-- Numbers within a bound.
use Rattle.std.specs.Prelude.{ℕ, nat_le, if◌then◌else◌, Option, None, Some}
use Rattle.std.specs.Option.{option_and_then}

-- a number, where it is not greater than this
abbrev pub at_most : ℕ → Option ℕ → Option ℕ
at_most most number = option_and_then (λ n. if nat_le n most then Some n else None) number
