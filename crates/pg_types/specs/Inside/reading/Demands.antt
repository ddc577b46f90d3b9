-- What is due at each item of a parameters file, and the first item that is not what is due.
use Rattle.std.specs.Prelude.{ℕ, ◌+◌, ◌==◌, ◌&&◌, nat_lt, nat_le, min, Bool, true, false, if◌then◌else◌, List, [], ◌∷◌, drop, Option, None, Some, option_map, Result, Ok, Err}
use Rattle.std.specs.Option.{option_map_or}
use Rattle.pg_types.specs.declared.limits.TheConstants.{LEVEL_MAX, LENGTH_MAX, COST_MAX}
use Rattle.pg_types.specs.declared.refusals.Kind.TheVariants.{BadNumber, OutOfRange, Missing, Extra}
use Rattle.pg_types.specs.declared.refusals.Refusal.{Refusal}
use Rattle.pg_types.specs.declared.demands.Parameter.{Parameter}
use Rattle.pg_types.specs.declared.demands.Parameter.TheVariants.{FirstLevel, LastLevel, LeastLength, GreatestLength, GoodWeight, BadWeight, Threshold, Answer}
use Rattle.pg_types.specs.declared.demands.Due.{Due}
use Rattle.pg_types.specs.Numbers.{number}
use Rattle.pg_types.specs.Parameters.{Parameters, is_answer}
use Rattle.pg_types.specs.ValuesOrRefusals.{refusal_at}

-- a number of the same level, from the least to the greatest
abbrev pub due_with : Due → Parameter → ℕ → ℕ → Due
due_with d parameter least greatest =
    record d { parameter = parameter; least = least; greatest = greatest }

-- the first item is the first level
abbrev pub first_due : Due
first_due = record {
  parameter = FirstLevel;
  first = 0;
  last = 0;
  level = 0;
  least = 1;
  greatest = LEVEL_MAX;
}

-- what is due where a level begins
abbrev pub level_begun : Due → Due
level_begun d = due_with d LeastLength 1 LENGTH_MAX

-- behind the numbers of all levels no number is due
abbrev pub numbers_ended : Due → Due
numbers_ended d = due_with d Answer 0 0

-- what is due behind a number: behind the first level and the last, five numbers for each level
abbrev pub due_behind : Parameter → Due → ℕ → Due
due_behind FirstLevel d n = record (due_with d LastLevel 1 LEVEL_MAX)
    { first = min n LEVEL_MAX; level = min n LEVEL_MAX }
due_behind LastLevel d n = let known = record d { last = min n LEVEL_MAX } in
    if nat_le d.level (min n LEVEL_MAX) then level_begun known else numbers_ended known
due_behind LeastLength d n = due_with d GreatestLength n LENGTH_MAX
due_behind GreatestLength d n = due_with d GoodWeight 1 COST_MAX
due_behind GoodWeight d n = due_with d BadWeight 1 COST_MAX
due_behind BadWeight d n = due_with d Threshold 1 COST_MAX
due_behind Threshold d n = if nat_lt d.level d.last
    then level_begun (record d { level = d.level + 1 }) else numbers_ended d
due_behind Answer d n = d

-- whether no number is due any more
abbrev pub is_end : Parameter → Bool
is_end FirstLevel = false
is_end LastLevel = false
is_end LeastLength = false
is_end GreatestLength = false
is_end GoodWeight = false
is_end BadWeight = false
is_end Threshold = false
is_end Answer = true

-- what a reading of a file refuses; none where it reads
abbrev pub refusal_of : Result Parameters Refusal → Option Refusal
refusal_of (Ok p) = None
refusal_of (Err r) = Some r

-- why these items may not follow all numbers, where the first of them has the number i
abbrev pub surplus : ℕ → List (List ℕ) → Option Refusal
surplus i [] = None
surplus i (x ∷ []) = if is_answer x then None else Some (refusal_at i Extra 0)
surplus i (x ∷ y ∷ xs) = Some (refusal_at (if is_answer x then i + 1 else i) Extra 0)

-- the number that begins these items
abbrev pub first_number : List (List ℕ) → Option ℕ
first_number [] = None
first_number (x ∷ xs) = number x

-- an item that is not what is due: its refusal, what is due, and the items from this one on
abbrev pub UnmetItem : Type 0
UnmetItem = Refusal × Due × List (List ℕ)

-- the first item behind all numbers that may not follow
abbrev pub unmet_end : ℕ → Due → List (List ℕ) → Option UnmetItem
unmet_end i d xs =
    option_map (λ r. (r, d, if r.line == i then xs else drop 1 xs)) (surplus i xs)

-- the first item that is not what is due, where the first of these has the number i
abbrev pub unmet_from : List (List ℕ) → ℕ → Due → Option UnmetItem
unmet_from [] i d = if is_end d.parameter then unmet_end i d []
    else Some (refusal_at i Missing 0, d, [])
unmet_from (x ∷ xs) i d = if is_end d.parameter then unmet_end i d (x ∷ xs)
    else option_map_or (λ n. if nat_le d.least n && nat_le n d.greatest
    then unmet_from xs (i + 1) (due_behind d.parameter d n)
    else Some (refusal_at i OutOfRange 0, d, x ∷ xs))
    (number x) (Some (refusal_at i BadNumber 0, d, x ∷ xs))

-- why an item with the number i, the first of these, does not meet its demand; none where it does
abbrev pub item_fault : ℕ × ℕ → ℕ → List (List ℕ) → Option Refusal
item_fault demand i [] = Some (refusal_at i Missing 0)
item_fault demand i (x ∷ xs) = option_map_or
    (λ n. if nat_le demand.0 n && nat_le n demand.1 then None else Some (refusal_at i OutOfRange 0))
    (number x) (Some (refusal_at i BadNumber 0))
