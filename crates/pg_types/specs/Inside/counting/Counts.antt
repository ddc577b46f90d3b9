-- The windows that are counted in a pass, in the order of signs, each with its sums of good and bad
-- weights.
use Rattle.std.specs.Prelude.{◌≡◌, ℕ, ◌+◌, ◌<◌, Bool, if◌then◌else◌, List, [], ◌∷◌, filter, unwrap_or, Option, None, Some, is_some}
use Rattle.pg_types.specs.Inside.Limits.{counts_limit}
use Rattle.std.specs.Ordering.{nat_cmp, is_lt}
use Rattle.std.specs.Cmp.Lexicographic.{slice_cmp}
use Rattle.std.specs.FinMap.Entries.{put, find}

-- the windows that a pass counts, in the order of signs, each with its sums of good and of bad
abbrev pub Counts : Type 0
Counts = List (List ℕ × (ℕ × ℕ))

-- the sums of a window, or none where it is not counted
abbrev pub counted_sums : Counts → List ℕ → Option (ℕ × ℕ)
counted_sums counts u = find (slice_cmp nat_cmp) u counts

-- the sums of a window, 0 and 0 where it is not counted
abbrev pub sums_of : Counts → List ℕ → ℕ × ℕ
sums_of counts u = unwrap_or (counted_sums counts u) (0, 0)

-- sums with one weight more
abbrev pub with_weight : ℕ × ℕ → Bool → ℕ → ℕ × ℕ
with_weight sums good weight = if good then (sums.0 + weight, sums.1) else (sums.0, sums.1 + weight)

-- the counts with one weight more at a window
abbrev pub with_count : Counts → List ℕ → Bool → ℕ → Counts
with_count counts u good weight = put (slice_cmp nat_cmp) u
    (with_weight (sums_of counts u) good weight) counts

-- a window is counted
abbrev pub is_counted : Counts → List ℕ → Bool
is_counted counts u = is_some (counted_sums counts u)

-- the counts of the windows that are greater than u
abbrev pub windows_above : List ℕ → Counts → Counts
windows_above u counts = filter (λ e. is_lt (slice_cmp nat_cmp u e.0)) counts

-- the least window above `old` was found, with its sums; or there is none, and `new` is `old`
abbrev pub IsNextAbove : Counts → List ℕ → List ℕ → Option (ℕ × ℕ) → Type 0
IsNextAbove counts old new None = (windows_above old counts ≡ []) × (new ≡ old)
IsNextAbove counts old new (Some sums) = windows_above old counts
    ≡ (new, sums) ∷ windows_above new counts

-- both sums are below their limit
abbrev pub AreSmall : ℕ × ℕ → Type 0
AreSmall sums = (sums.0 < counts_limit) × (sums.1 < counts_limit)
