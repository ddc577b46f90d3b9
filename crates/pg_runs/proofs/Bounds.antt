-- The bound of the sums while windows are counted.
use Rattle.std.proofs.Common.{◌≡◌, ℕ, ◌+◌, ◌≤◌, ◌<◌, Bool, true, false, cond, List, Some, unwrap_or, nat_cmp, sym, ap, subst, arith}
use Rattle.std.specs.Cmp.Lexicographic.{slice_cmp, nat_list_cmp_total}
use Rattle.std.specs.FinMap.Entries.{find, find-put}
use Rattle.std.specs.Ordering.{eq_by_cmp}
use Rattle.pg_types.specs.Inside.Limits.{counts_limit}
use Rattle.pg_types.specs.Inside.counting.Counts.{AreSmall, Counts, sums_of, with_weight}
use Rattle.pg_select.specs.Inside.engine.Meanings.{with_position}
use Rattle.pg_runs.specs.Inside.Keeping.{AreAtMost}

-- both sums are at most n
abbrev AtMost : ℕ → ℕ × ℕ → Type 0
AtMost n sums = (sums.0 ≤ n) × (sums.1 ≤ n)

more : (n k weight : ℕ) (good : Bool) (sums : ℕ × ℕ) → weight ≤ k → AtMost n sums → AtMost (n + k) (with_weight sums good weight)
more n k weight true sums small low = let first : sums.0 ≤ n = low.0 in let second : sums.1 ≤ n = low.1 in (omega arith, omega arith)
more n k weight false sums small low = let first : sums.0 ≤ n = low.0 in let second : sums.1 ≤ n = low.1 in (omega arith, omega arith)

same : (n k : ℕ) (sums : ℕ × ℕ) → AtMost n sums → AtMost (n + k) sums
same n k sums low = let first : sums.0 ≤ n = low.0 in let second : sums.1 ≤ n = low.1 in (omega arith, omega arith)

at : (counts : Counts) (n : ℕ) → AreAtMost counts n → (u : List ℕ) → AtMost n (sums_of counts u)
at counts n low u = (low.good u, low.bad u)

-- a weight adds at most itself to each sum
after : (counts : Counts) (window : List ℕ) (good : Bool) (weight n k : ℕ) → weight ≤ k → AreAtMost counts n → (u : List ℕ)
    → AtMost (n + k) (sums_of (with_position counts (record { window = window; good = good; weight = weight })) u)
after counts window good weight n k small low u =
    let sums = with_weight (sums_of counts window) good weight in
    let there : sums_of (with_position counts (record { window = window; good = good; weight = weight })) u
    ≡ unwrap_or (cond (eq_by_cmp (slice_cmp nat_cmp) u window) (Some sums) (find (slice_cmp nat_cmp) u counts)) (0, 0) =
    ap (λ o. unwrap_or o (0, 0)) (find-put (slice_cmp nat_cmp) nat_list_cmp_total u window sums counts) in
    subst (AtMost (n + k)) (sym there) (by_window (eq_by_cmp (slice_cmp nat_cmp) u window))
  where
    by_window : (t : Bool) → AtMost (n + k) (unwrap_or (cond t (Some (with_weight (sums_of counts window) good weight)) (find (slice_cmp nat_cmp) u counts)) (0, 0))
    by_window true = more n k weight good (sums_of counts window) small (at counts n low window)
    by_window false = same n k (sums_of counts u) (at counts n low u)

-- sums that are at most n are small with a weight more, where there is room for it
pub small_more : (counts : Counts) (u : List ℕ) (good : Bool) (weight n k : ℕ) → weight ≤ k → n + k < counts_limit → AreAtMost counts n → AreSmall (with_weight (sums_of counts u) good weight)
small_more counts u good weight n k small room low =
    let most : AtMost (n + k) (with_weight (sums_of counts u) good weight) = more n k weight good (sums_of counts u) small (at counts n low u) in
    (omega (arith, room, most.0), omega (arith, room, most.1))

-- the sums after a window is counted
pub bound_more : (counts new : Counts) (window : List ℕ) (good : Bool) (weight n k m : ℕ) → weight ≤ k → n + k ≤ m → AreAtMost counts n → new
    ≡ with_position counts (record { window = window; good = good; weight = weight }) → AreAtMost new m
bound_more counts new window good weight n k m small within low is =
    let P : Counts → Type 0 = λ cs. AreAtMost cs m in
    subst P (sym is) (record {
      good = λ u. let first : AtMost (n + k) (sums_of (with_position counts (record { window = window; good = good; weight = weight })) u) =
          after counts window good weight n k small low u in omega (arith, first.0);
      bad = λ u. let first : AtMost (n + k) (sums_of (with_position counts (record { window = window; good = good; weight = weight })) u) =
          after counts window good weight n k small low u in omega (arith, first.1);
    })
