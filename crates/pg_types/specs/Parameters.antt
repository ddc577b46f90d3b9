-- The parameters of a run, and when a file of them is refused. Its numbers are asked for one after
-- the other, as patgen asks for them, and the first one that does not fit is refused.
use Rattle.std.specs.Prelude.{ℕ, zero, suc, ◌+◌, ◌-◌, ◌==◌, ◌||◌, ◌&&◌, nat_lt, nat_le, nat_eq, Bool, if◌then◌else◌, List, [], ◌∷◌, length, filter, Result, Ok, Err, codes}
use Rattle.std.specs.List.{list_any}
use Rattle.std.specs.Option.{option_map_or}
use Rattle.std.specs.Cmp.Lexicographic.{pointwise}
use Rattle.pg_types.specs.declared.limits.TheConstants.{FILE_MAX, LEVEL_MAX, LENGTH_MAX, COST_MAX}
use Rattle.pg_types.specs.declared.refusals.Kind.TheVariants.{BadNumber, OutOfRange, Missing, Extra, ParametersTooLong}
use Rattle.pg_types.specs.declared.refusals.Refusal.{Refusal}
use Rattle.pg_types.specs.declared.parameters.LevelParams.{LevelParams}
use Rattle.pg_types.specs.Lines.{has_byte, pieces_at}
use Rattle.pg_types.specs.Numbers.{number}
use Rattle.pg_types.specs.ValuesOrRefusals.{refusal_at}

-- the parameters of a run: its first and last level, and what each level that is run is given
pub record Parameters : Type 0 where
  pub start : ℕ
  pub finish : ℕ
  pub levels : List LevelParams

-- the items of a file are what stands between its blanks, TABs, CRs and LFs
abbrev pub items : List ℕ → List (List ℕ)
items bytes = filter has_byte (pieces_at (λ b. b == 32 || b == 9 || b == 13 || b == 10) bytes)

-- what comes of the items that are left, where this is the number of the next one
abbrev pub Reading : Type 0
Reading = ℕ → List (List ℕ) → Result Parameters Refusal

-- a number from the least to the greatest, and what comes then
abbrev pub number_then : ℕ → ℕ → (ℕ → Reading) → Reading
number_then least greatest next i [] = Err (refusal_at i Missing 0)
number_then least greatest next i (x ∷ xs) = option_map_or (λ n.
    if nat_le least n && nat_le n greatest then next n (i + 1) xs
    else Err (refusal_at i OutOfRange 0)) (number x) (Err (refusal_at i BadNumber 0))

-- a level: its lengths, two weights and the threshold, and what comes then
abbrev pub level_then : (LevelParams → Reading) → Reading
level_then next = number_then 1 LENGTH_MAX (λ a. number_then a LENGTH_MAX (λ b.
    number_then 1 COST_MAX (λ c. number_then 1 COST_MAX (λ d. number_then 1 COST_MAX (λ e.
    next (record { pat_start = a; pat_finish = b; good_wt = c; bad_wt = d; thresh = e }))))))

-- so many levels, and what comes then
abbrev pub levels_then : ℕ → (List LevelParams → Reading) → Reading
levels_then zero next = next []
levels_then (suc n) next = level_then (λ level. levels_then n (λ levels. next (level ∷ levels)))

-- the answer of a user of patgen to its last question: y, Y, n or N
abbrev pub is_answer : List ℕ → Bool
is_answer item = list_any (λ b. pointwise nat_eq item (b ∷ [])) (codes "yYnN")

-- the parameters, where nothing is left but one answer
abbrev pub nothing_then : Parameters → Reading
nothing_then p i [] = Ok p
nothing_then p i (x ∷ []) = if is_answer x then Ok p else Err (refusal_at i Extra 0)
nothing_then p i (x ∷ y ∷ xs) = Err (refusal_at (if is_answer x then i + 1 else i) Extra 0)

-- the parameters that a file holds, or its refusal
abbrev pub parameters : List ℕ → Result Parameters Refusal
parameters bytes = if nat_lt FILE_MAX (length bytes) then Err (refusal_at 0 ParametersTooLong 0)
    else number_then 1 LEVEL_MAX (λ start. number_then 1 LEVEL_MAX (λ finish.
    levels_then (finish + 1 - start) (λ levels. nothing_then
    (record { start = start; finish = finish; levels = levels })))) 1 (items bytes)
