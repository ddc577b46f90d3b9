-- The sign of a family that comes after another one, and the one before it: by a test of signs, and
-- by a map of strings.
use Rattle.std.specs.Prelude.{◌≡◌, ◌≢◌, ℕ, ◌<◌, ◌≤◌, ◌⊎◌, Bool, true, false, List, [], ◌∷◌, ◌++◌, length, get_or, slice_index}
use Rattle.std.specs.Option.{is_some}
use Rattle.std.specs.Ordering.{nat_cmp}
use Rattle.std.specs.Cmp.Lexicographic.{slice_cmp}
use Rattle.std.specs.FinMap.{find}
use Rattle.pg_types.specs.Placement.{Families}
use Rattle.pg_types.specs.Inside.Placing.{cell_of}

-- y is the least number greater than x that passes the test, or 0 where there is none
pub record IsNext (test : ℕ → Bool) (x y : ℕ) : Type 0 where
  pub found : 0 < y → (x < y) × (test y ≡ true)
  pub least : (z : ℕ) → x < z → test z ≡ true → (0 < y) × (y ≤ z)

-- whether the string p with the sign added has a value
abbrev pub goes_on : {X : Type 0} → List (List ℕ × X) → List ℕ → ℕ → Bool
goes_on values p s = is_some (find (slice_cmp nat_cmp) (p ++ s ∷ []) values)

-- y is the least sign above s by which a string goes on from p, or 0 where there is none
abbrev pub IsNextSign : {X : Type 0} → List (List ℕ × X) → List ℕ → ℕ → ℕ → Type 0
IsNextSign values p s y = IsNext (goes_on values p) s y

-- b is the greatest sign below s by which a string goes on from q, or 0 where there is none
pub record IsBefore {X : Type 0} (values : List (List ℕ × X)) (q : List ℕ) (s b : ℕ) : Type 0 where
  pub less : b < s
  pub there : (b ≡ 0) ⊎ (goes_on values q b ≡ true)
  pub most : (z : ℕ) → z < s → goes_on values q z ≡ true → z ≤ b

-- whether the family below the string has the sign
abbrev pub has_sign : Families → List ℕ → ℕ → Bool
has_sign fs p s = is_some (cell_of fs (p ++ s ∷ []))

-- the number before the index k of a list, 0 before the first
abbrev pub number_before : List ℕ → ℕ → ℕ
number_before xs k = get_or (0 ∷ xs) k 0

-- each number of the list is above 0
abbrev pub ArePositive : List ℕ → Type 0
ArePositive xs = (k : ℕ) → k < length xs → 0 < slice_index xs k

-- the list has the numbers that pass the test, but for 0, in rising order
pub record ArePassing (test : ℕ → Bool) (xs : List ℕ) : Type 0 where
  pub each : (k : ℕ) → k < length xs → (0 < get_or xs k 0)
      × IsNext test (number_before xs k) (get_or xs k 0)
  pub last : IsNext test (number_before xs (length xs)) 0

-- the family below the string has no sign but s
abbrev pub IsAlone : Families → List ℕ → ℕ → Type 0
IsAlone fs p s = (x : ℕ) → x ≢ s → has_sign fs p x ≡ false

-- the family below the string has a sign other than s
abbrev pub HasOther : Families → List ℕ → ℕ → Type 0
HasOther fs p s = (x : ℕ) × (x ≢ s) × (has_sign fs p x ≡ true)
