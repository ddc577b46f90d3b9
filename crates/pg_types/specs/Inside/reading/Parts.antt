-- The parts of a reading: parts of a file, joined; the first refusal of checks; and digits that are
-- read one after the other.
use Rattle.std.specs.Prelude.{ℕ, if◌then◌else◌, List, [], ◌∷◌, ◌++◌, fold, Option, None, Some, Result, Ok, Err}
use Rattle.std.specs.List.{list_all}
use Rattle.std.specs.Char.{is_ascii_digit}
use Rattle.pg_types.specs.declared.refusals.Refusal.{Refusal}
use Rattle.pg_types.specs.Numbers.{with_digit}

-- two parts of a list, one behind the other, or the first refusal
abbrev pub both_parts : {X : Type 0} → Result (List X) Refusal
    → Result (List X) Refusal → Result (List X) Refusal
both_parts (Ok xs) (Ok ys) = Ok (xs ++ ys)
both_parts (Ok xs) (Err r) = Err r
both_parts (Err r) ys = Err r

-- the first refusal of a list of checks, else the value
abbrev pub first_refusal : {Y : Type 0} → List Refusal → Y → Result Y Refusal
first_refusal [] y = Ok y
first_refusal (r ∷ rs) y = Err r

-- the number that the digits write behind a number so far, where they are digits
abbrev pub number_from : ℕ → List ℕ → Option ℕ
number_from n digits = if list_all is_ascii_digit digits then Some (fold with_digit n digits)
    else None
