-- What is due at the items of a parameters file is what the file demands of them.
use Rattle.std.proofs.Common.{◌≡◌, ℕ, ◌+◌, ◌-◌, ◌*◌, ◌<◌, ◌≤◌, inl, inr, Bool, true, false, ◌&&◌, ◌==◌, nat_lt, nat_le, List, [], ◌∷◌, ◌++◌, length, drop, min, unwrap_or, Option, option_map, None, Some, Result, Ok, Err, OnOk, IfErr, MatchResult, refl, ap, sym, ◌∙◌, arith, suc, zero}
use Rattle.std.specs.Prelude.{if◌then◌else◌}
use Rattle.std.specs.Option.{option_map_or}
use Rattle.std.specs.List.{flat_map, range_with_len}
use Rattle.std.proofs.lemmas.Bool.{cases_Bool, cases_lt, false≢true, and_parts, leb-true, leb-false, lt-ltb, le-ltb, le-leb}
use Rattle.std.proofs.lemmas.List.{drop-drop}
use Rattle.pg_types.specs.declared.limits.TheConstants.{FILE_MAX, LEVEL_MAX, LENGTH_MAX, COST_MAX}
use Rattle.pg_types.specs.declared.refusals.Kind.{Kind}
use Rattle.pg_types.specs.declared.refusals.Kind.TheVariants.{BadNumber, OutOfRange, Extra}
use Rattle.pg_types.specs.declared.refusals.Refusal.{Refusal}
use Rattle.pg_types.specs.declared.demands.Parameter.{Parameter}
use Rattle.pg_types.specs.declared.demands.Parameter.TheVariants.{FirstLevel, LastLevel, LeastLength, GreatestLength, GoodWeight, BadWeight, Threshold, Answer}
use Rattle.pg_types.specs.declared.demands.Due.{Due}
use Rattle.pg_types.specs.ValuesOrRefusals.{refusal_at, unless}
use Rattle.pg_types.specs.declared.parameters.LevelParams.{LevelParams}
use Rattle.pg_types.specs.Numbers.{number}
use Rattle.pg_types.specs.Parameters.{Parameters, Reading, items, number_then, level_then, levels_then, nothing_then, is_answer, parameters}
use Rattle.pg_types.specs.Inside.reading.Demands.{UnmetItem, due_with, first_due, level_begun, numbers_ended, due_behind, is_end, unmet_end, unmet_from, item_fault, first_number, refusal_of, surplus}

-- the refusal of an item
abbrev pub refusal_in : UnmetItem → Refusal
refusal_in u = u.0

-- the refusal of the first item that is not what is due
abbrev pub refused : List (List ℕ) → ℕ → Due → Option Refusal
refused xs i d = option_map refusal_in (unmet_from xs i d)

-- whether a number is in the range of what is due
abbrev in_range : Due → ℕ → Bool
in_range d n = nat_le d.least n && nat_le n d.greatest

same_end : (i : ℕ) (d : Due) (xs : List (List ℕ)) (s : Option Refusal)
    → option_map refusal_in (option_map (λ r. (r, d, if r.line == i then xs else drop 1 xs)) s) ≡ s
same_end i d xs None = refl
same_end i d xs (Some r) = refl

-- where no number is due, the refusal is that of an item that may not follow
ended : (d : Due) (i : ℕ) (xs : List (List ℕ)) → is_end d.parameter ≡ true → refused xs i d ≡ surplus i xs
ended d i [] is = rw is (same_end i d [] (surplus i []))
ended d i (x ∷ xs) is = rw is (same_end i d (x ∷ xs) (surplus i (x ∷ xs)))

-- what is left behind all numbers is refused as the reader does
surplus_as : (p : Parameters) (i : ℕ) (xs : List (List ℕ)) → refusal_of (nothing_then p i xs) ≡ surplus i xs
surplus_as p i [] = refl
surplus_as p i (x ∷ []) = elim (cases_Bool (is_answer x)) [ inl is ↦ rw is refl | inr other ↦ rw other refl ]
surplus_as p i (x ∷ y ∷ xs) = refl

abbrev none_read : Parameters
none_read = record { start = 0; finish = 0; levels = [] }

-- where nothing is left, or too much, the reader says so
pub nothing_left : (i : ℕ) (xs : List (List ℕ)) → ((p : Parameters) → nothing_then p i xs ≡ Ok p) → surplus i xs ≡ None
nothing_left i xs is = sym (surplus_as none_read i xs) ∙ ap refusal_of (is none_read)

pub surplus_left : (i : ℕ) (xs : List (List ℕ)) (r : Refusal) → ((p : Parameters) → nothing_then p i xs ≡ Err r) → surplus i xs ≡ Some r
surplus_left i xs r is = sym (surplus_as none_read i xs) ∙ ap refusal_of (is none_read)

by_number : (d : Due) (i : ℕ) (left : List (List ℕ)) (o : Option ℕ) (found : ℕ → Option UnmetItem) (rest : ℕ → Result Parameters Refusal)
    → ((n : ℕ) → in_range d n ≡ true → option_map refusal_in (found n) ≡ refusal_of (rest n))
    → option_map refusal_in (option_map_or (λ n. if in_range d n then found n else Some (refusal_at i OutOfRange 0, d, left)) o (Some (refusal_at i BadNumber 0, d, left)))
    ≡ refusal_of (option_map_or (λ n. if in_range d n then rest n else Err (refusal_at i OutOfRange 0)) o (Err (refusal_at i BadNumber 0)))
by_number d i left None found rest h = refl
by_number d i left (Some n) found rest h = elim (cases_Bool (in_range d n)) [
  | inl inside ↦ rw inside (h n inside)
  | inr outside ↦ rw outside refl
]

-- a number is refused as the reader does, where what follows it is
step : (d : Due) (next : ℕ → Reading) (i : ℕ) (xs : List (List ℕ)) → is_end d.parameter ≡ false
    → ((n j : ℕ) (ys : List (List ℕ)) → in_range d n ≡ true → refused ys j (due_behind d.parameter d n) ≡ refusal_of (next n j ys))
    → refused xs i d ≡ refusal_of (number_then d.least d.greatest next i xs)
step d next i [] more h = rw more refl
step d next i (x ∷ xs) more h = rw more (by_number d i (x ∷ xs) (number x) (λ n. unmet_from xs (i + 1) (due_behind d.parameter d n)) (λ n. next n (i + 1) xs) (λ n. h n (i + 1) xs))

-- what comes behind a level
abbrev Behind : Due → (LevelParams → Reading) → Type 0
Behind d next = (level : LevelParams) (j : ℕ) (ys : List (List ℕ)) → refused ys j (due_behind Threshold (due_with d Threshold 1 COST_MAX) 0) ≡ refusal_of (next level j ys)

by_level : (d : Due) (next : LevelParams → Reading) (i : ℕ) (xs : List (List ℕ)) → Behind d next → refused xs i (level_begun d) ≡ refusal_of (level_then next i xs)
by_level d next i xs h =
    let last : ℕ → ℕ → ℕ → ℕ → ℕ → Reading = λ a b c w e. next (record { pat_start = a; pat_finish = b; good_wt = c; bad_wt = w; thresh = e }) in
    step (level_begun d) (λ a. number_then a LENGTH_MAX (λ b. number_then 1 COST_MAX (λ c. number_then 1 COST_MAX (λ w. number_then 1 COST_MAX (last a b c w))))) i xs refl (λ a i1 x1 in1.
    step (due_with d GreatestLength a LENGTH_MAX) (λ b. number_then 1 COST_MAX (λ c. number_then 1 COST_MAX (λ w. number_then 1 COST_MAX (last a b c w)))) i1 x1 refl (λ b i2 x2 in2.
    step (due_with d GoodWeight 1 COST_MAX) (λ c. number_then 1 COST_MAX (λ w. number_then 1 COST_MAX (last a b c w))) i2 x2 refl (λ c i3 x3 in3.
    step (due_with d BadWeight 1 COST_MAX) (λ w. number_then 1 COST_MAX (last a b c w)) i3 x3 refl (λ w i4 x4 in4.
    step (due_with d Threshold 1 COST_MAX) (last a b c w) i4 x4 refl (λ e i5 x5 in5.
    h (record { pat_start = a; pat_finish = b; good_wt = c; bad_wt = w; thresh = e }) i5 x5)))))

-- what comes behind all levels
abbrev Ends : (List LevelParams → Reading) → Type 0
Ends next = (levels : List LevelParams) (j : ℕ) (ys : List (List ℕ)) → surplus j ys ≡ refusal_of (next levels j ys)

-- so many levels and one
by_levels : (count : ℕ) (d : Due) (next : List LevelParams → Reading) (i : ℕ) (xs : List (List ℕ)) → d.level + count ≡ d.last → Ends next
    → refused xs i (level_begun d) ≡ refusal_of (levels_then (suc count) next i xs)
by_levels zero d next i xs all h =
    let last : nat_lt d.level d.last ≡ false = le-ltb d.level d.last (omega arith) in
    by_level d (λ level. next (level ∷ [])) i xs (λ level j ys. rw last (ended (numbers_ended d) j ys refl ∙ h (level ∷ []) j ys))
by_levels (suc count) d next i xs all h =
    let more : nat_lt d.level d.last ≡ true = lt-ltb d.level d.last (omega arith) in
    by_level d (λ level. levels_then (suc count) (λ levels. next (level ∷ levels))) i xs (λ level j ys.
    rw more (by_levels count (record d { level = d.level + 1 }) (λ levels. next (level ∷ levels)) j ys (omega arith) (λ levels. h (level ∷ levels))))

-- the levels behind the first and the last level
behind_last : (d : Due) (m : ℕ) (next : List LevelParams → Reading) (i : ℕ) (xs : List (List ℕ)) → m ≤ LEVEL_MAX → Ends next
    → refused xs i (due_behind LastLevel d m) ≡ refusal_of (levels_then (m + 1 - d.level) next i xs)
behind_last d m next i xs high h =
    let known : Due = record d { last = min m LEVEL_MAX } in
    elim (cases_Bool (nat_le d.level (min m LEVEL_MAX))) [
      | inl some ↦
          let low : d.level ≤ min m LEVEL_MAX = leb-true d.level (min m LEVEL_MAX) some in
          let count : suc (min m LEVEL_MAX - d.level) ≡ m + 1 - d.level = omega arith in
          rw some (by_levels (min m LEVEL_MAX - d.level) known next i xs (omega arith) h ∙ ap (λ (n : ℕ). refusal_of (levels_then n next i xs)) count)
      | inr none ↦
          let low : min m LEVEL_MAX < d.level = leb-false d.level (min m LEVEL_MAX) none in
          let count : 0 ≡ m + 1 - d.level = omega arith in
          rw none (ended (numbers_ended known) i xs refl ∙ h [] i xs ∙ ap (λ (n : ℕ). refusal_of (levels_then n next i xs)) count)
    ]

in_range_high : (least greatest n : ℕ) → (nat_le least n && nat_le n greatest) ≡ true → n ≤ greatest
in_range_high least greatest n inside = leb-true n greatest ((and_parts (nat_le least n) (nat_le n greatest) inside).1)

abbrev read_after : ℕ → ℕ → List LevelParams → Reading
read_after start finish levels = nothing_then (record { start = start; finish = finish; levels = levels })

-- the first item that is not what is due is the one that the reader refuses
pub refused_as : (xs : List (List ℕ)) → refused xs 1 first_due
    ≡ refusal_of (number_then 1 LEVEL_MAX (λ start. number_then 1 LEVEL_MAX (λ finish. levels_then (finish + 1 - start) (read_after start finish))) 1 xs)
refused_as xs = step first_due (λ start. number_then 1 LEVEL_MAX (λ finish. levels_then (finish + 1 - start) (read_after start finish))) 1 xs refl (λ n i1 x1 in1.
    let first : min n LEVEL_MAX ≡ n = (let high : n ≤ LEVEL_MAX = in_range_high 1 LEVEL_MAX n in1 in omega arith) in
    step (due_behind FirstLevel first_due n) (λ finish. levels_then (finish + 1 - n) (read_after n finish)) i1 x1 refl (λ m i2 x2 in2.
    behind_last (due_behind FirstLevel first_due n) m (read_after n m) i2 x2 (in_range_high 1 LEVEL_MAX m in2) (λ levels j ys. sym (surplus_as (record { start = n; finish = m; levels = levels }) j ys))
    ∙ ap (λ (k : ℕ). refusal_of (levels_then (m + 1 - k) (read_after n m) i2 x2)) first))

-- more numbers are not due: those of nine levels and some more
abbrev pub numbers_due : Parameter → Due → ℕ
numbers_due FirstLevel d = 52
numbers_due LastLevel d = 51
numbers_due LeastLength d = 5 * (d.last - d.level) + 5
numbers_due GreatestLength d = 5 * (d.last - d.level) + 4
numbers_due GoodWeight d = 5 * (d.last - d.level) + 3
numbers_due BadWeight d = 5 * (d.last - d.level) + 2
numbers_due Threshold d = 5 * (d.last - d.level) + 1
numbers_due Answer d = 0

-- what the walk over a file keeps of what is due
pub record IsDue (d : Due) : Type 0 where
  pub greatest : d.greatest ≤ COST_MAX
  pub last : d.last ≤ LEVEL_MAX

-- fewer numbers are due behind a number
pub fewer_due : (p : Parameter) (d : Due) (n : ℕ) → is_end p ≡ false → d.last ≤ LEVEL_MAX
    → numbers_due (due_behind p d n).parameter (due_behind p d n) + 1 ≤ numbers_due p d
fewer_due FirstLevel d n more low = omega arith
fewer_due LastLevel d n more low = elim (cases_Bool (nat_le d.level (min n LEVEL_MAX))) [
  | inl some ↦ rw some (omega arith)
  | inr none ↦ rw none (omega arith)
]
fewer_due LeastLength d n more low = omega arith
fewer_due GreatestLength d n more low = omega arith
fewer_due GoodWeight d n more low = omega arith
fewer_due BadWeight d n more low = omega arith
fewer_due Threshold d n more low = elim (cases_lt d.level d.last) [
  | inl inside ↦ rw (lt-ltb d.level d.last inside) (omega arith)
  | inr past ↦ rw (le-ltb d.level d.last past) (omega arith)
]
fewer_due Answer d n more low = cc

pub still_due : (p : Parameter) (d : Due) (n : ℕ) → IsDue d → IsDue (due_behind p d n)
still_due FirstLevel d n is = record { greatest = omega arith; last = is.last }
still_due LastLevel d n is = elim (cases_Bool (nat_le d.level (min n LEVEL_MAX))) [
  | inl some ↦ rw some (record { greatest = omega arith; last = omega arith })
  | inr none ↦ rw none (record { greatest = omega arith; last = omega arith })
]
still_due LeastLength d n is = record { greatest = omega arith; last = is.last }
still_due GreatestLength d n is = record { greatest = omega arith; last = is.last }
still_due GoodWeight d n is = record { greatest = omega arith; last = is.last }
still_due BadWeight d n is = record { greatest = omega arith; last = is.last }
still_due Threshold d n is = elim (cases_Bool (nat_lt d.level d.last)) [
  | inl inside ↦ rw inside (record { greatest = omega arith; last = is.last })
  | inr past ↦ rw past (record { greatest = omega arith; last = is.last })
]
still_due Answer d n is = is

met_number : (d : Due) (i : ℕ) (left : List (List ℕ)) (o : Option ℕ) (found : ℕ → Option UnmetItem) (n : ℕ)
    → option_map_or (λ n. if in_range d n then None else Some (refusal_at i OutOfRange 0)) o (Some (refusal_at i BadNumber 0)) ≡ None
    → o ≡ Some n
    → option_map_or (λ n. if in_range d n then found n else Some (refusal_at i OutOfRange 0, d, left)) o (Some (refusal_at i BadNumber 0, d, left)) ≡ found n
met_number d i left None found n met is = cc
met_number d i left (Some m) found n met is = elim (cases_Bool (in_range d m)) [
  | inl inside ↦ rw inside (ap (λ (o : Option ℕ). found (unwrap_or o 0)) is)
  | inr outside ↦ let bad : Some (refusal_at i OutOfRange 0) ≡ None = rw outside at met in cc
]

-- behind an item that is what is due, the same is found
pub met : (xs ys : List (List ℕ)) (i j n : ℕ) (d : Due) (whole : Option UnmetItem) → is_end d.parameter ≡ false
    → item_fault (d.least, d.greatest) i xs ≡ None → first_number xs ≡ Some n → ys ≡ drop 1 xs → j ≡ i + 1
    → unmet_from xs i d ≡ whole → unmet_from ys j (due_behind d.parameter d n) ≡ whole
met [] ys i j n d whole more fault is rest next left = cc
met (x ∷ xs) ys i j n d whole more fault is rest next left =
    let found : ℕ → Option UnmetItem = λ n. unmet_from xs (i + 1) (due_behind d.parameter d n) in
    let here : unmet_from (x ∷ xs) i d ≡ found n = rw more (met_number d i (x ∷ xs) (number x) found n fault is) in
    rw (rest, next) (sym here ∙ left)

missed_number : (d : Due) (i : ℕ) (left : List (List ℕ)) (o : Option ℕ) (found : ℕ → Option UnmetItem) (r : Refusal)
    → option_map_or (λ n. if in_range d n then None else Some (refusal_at i OutOfRange 0)) o (Some (refusal_at i BadNumber 0)) ≡ Some r
    → option_map_or (λ n. if in_range d n then found n else Some (refusal_at i OutOfRange 0, d, left)) o (Some (refusal_at i BadNumber 0, d, left)) ≡ Some (r, d, left)
missed_number d i left None found r fault = ap (option_map (λ (r : Refusal). (r, d, left))) fault
missed_number d i left (Some m) found r fault = elim (cases_Bool (in_range d m)) [
  | inl inside ↦ let none : None ≡ Some r = rw inside at fault in cc
  | inr outside ↦
      let out : Some (refusal_at i OutOfRange 0) ≡ Some r = rw outside at fault in
      rw outside (ap (option_map (λ (r : Refusal). (r, d, left))) out)
]

-- an item that is refused is the first that is not what is due
pub missed : (xs : List (List ℕ)) (i : ℕ) (d : Due) (r : Refusal) (whole : Option UnmetItem) → is_end d.parameter ≡ false
    → item_fault (d.least, d.greatest) i xs ≡ Some r → unmet_from xs i d ≡ whole → whole ≡ Some (r, d, xs)
missed [] i d r whole more fault left =
    let here : unmet_from [] i d ≡ Some (r, d, []) = rw more (ap (option_map (λ (r : Refusal). (r, d, []))) fault) in
    sym left ∙ here
missed (x ∷ xs) i d r whole more fault left =
    let found : ℕ → Option UnmetItem = λ n. unmet_from xs (i + 1) (due_behind d.parameter d n) in
    let here : unmet_from (x ∷ xs) i d ≡ Some (r, d, x ∷ xs) = rw more (missed_number d i (x ∷ xs) (number x) found r fault) in
    sym left ∙ here

-- behind all numbers
pub at_end : (xs : List (List ℕ)) (i : ℕ) (d : Due) → is_end d.parameter ≡ true → unmet_end i d xs ≡ unmet_from xs i d
at_end [] i d is = rw is refl
at_end (x ∷ xs) i d is = rw is refl

-- a file that is not too long is refused as its first item that is not what is due says
pub read_by : (bytes : List ℕ) (whole : Option UnmetItem) → length bytes ≤ FILE_MAX → unmet_from (items bytes) 1 first_due ≡ whole
    → refusal_of (parameters bytes) ≡ option_map refusal_in whole
read_by bytes whole fits is = rw (le-ltb FILE_MAX (length bytes) fits) (sym (refused_as (items bytes)) ∙ ap (option_map refusal_in) is)

-- a number that was taken is what is due
pub fault_met : (least greatest n i : ℕ) (xs : List (List ℕ)) → first_number xs ≡ Some n → least ≤ n → n ≤ greatest → item_fault (least, greatest) i xs ≡ None
fault_met least greatest n i [] is low high = cc
fault_met least greatest n i (x ∷ xs) is low high = rw (is, le-leb least n low, le-leb n greatest high) refl

missed_by : (least greatest i : ℕ) (o : Option ℕ) (r : Refusal)
    → option_map_or (λ n. if nat_le least n && nat_le n greatest then Ok none_read else Err (refusal_at i OutOfRange 0)) o (Err (refusal_at i BadNumber 0)) ≡ Err r
    → option_map_or (λ n. if nat_le least n && nat_le n greatest then None else Some (refusal_at i OutOfRange 0)) o (Some (refusal_at i BadNumber 0)) ≡ Some r
missed_by least greatest i None r is = ap refusal_of is
missed_by least greatest i (Some n) r is = elim (cases_Bool (nat_le least n && nat_le n greatest)) [
  | inl inside ↦ let read : Ok none_read ≡ Err r = rw inside at is in cc
  | inr outside ↦ let out : Err (refusal_at i OutOfRange 0) ≡ Err r = rw outside at is in rw outside (ap refusal_of out)
]

-- an item that was refused has its fault
pub fault_missed : (least greatest i : ℕ) (xs : List (List ℕ)) (r : Refusal) → ((next : ℕ → Reading) → number_then least greatest next i xs ≡ Err r) → item_fault (least, greatest) i xs ≡ Some r
fault_missed least greatest i [] r is = ap refusal_of (is (λ n j ys. Ok none_read))
fault_missed least greatest i (x ∷ xs) r is = missed_by least greatest i (number x) r (is (λ n j ys. Ok none_read))
