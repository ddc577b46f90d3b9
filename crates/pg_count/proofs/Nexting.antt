-- The counts above a cursor, by the search.
use Rattle.std.proofs.Common.{◌≡◌, ℕ, List, [], ◌∷◌, length, Option, Some, is_some, sym, ◌∙◌, ap, arith}
use Rattle.std.specs.declared.cmp.Ordering.TheVariants.{Less}
use Rattle.std.specs.FinMap.Entries.{find}
use Rattle.pg_cells.specs.Inside.linked.ValuedFamilies.{ValuedFamilies}
use Rattle.pg_cells.proofs.StringMaps.{order}
use Rattle.pg_types.specs.Inside.counting.Counts.{windows_above}
use Rattle.pg_count.specs.Inside.Counting.{Counting, AreCounting, counting_of, counts_in, sums_at}
use Rattle.pg_count.specs.Inside.Least.{NoneAbove, LeastAbove}
use Rattle.pg_count.proofs.Above.{above_none, above_least}
use Rattle.pg_count.proofs.Counted.{find-counts_in}

module _ (cells : ValuedFamilies (Option (ℕ × ℕ))) (len : ℕ) (kept : AreCounting cells len) where
  -- what is counted is found by the search, and has the length
  told : (r : List ℕ) (n : ℕ × ℕ) → find order r (counts_in cells.values) ≡ Some n → sums_at cells.values r ≡ Some n
  told r n found = sym (find-counts_in cells.values kept.held.ordered r) ∙ found

  long : (r : List ℕ) (n : ℕ × ℕ) → find order r (counts_in cells.values) ≡ Some n → length r ≡ len
  long r n found = kept.counting.windows r (ap is_some found)

  none_here : (u : List ℕ) (k : ℕ) → k ≡ len → NoneAbove cells.values [] u k → windows_above u (counts_in cells.values) ≡ []
  none_here u k size none = above_none u (counts_in cells.values) kept.counting.sorted by
    where
      by : (r : List ℕ) (n : ℕ × ℕ) → find order r (counts_in cells.values) ≡ Some n → order u r ≡ Less → ⊥
      by [] n found over = let is = long [] n found in let some = kept.counting.some in omega arith
      by (s ∷ q) n found over = none s q n (long (s ∷ q) n found ∙ sym size) (told (s ∷ q) n found) over

  least_here : (u path : List ℕ) (sums : ℕ × ℕ) → length path ≡ len → LeastAbove cells.values [] u path sums → windows_above u (counts_in cells.values) ≡ (path, sums) ∷ windows_above path (counts_in cells.values)
  least_here u path sums size least =
      above_least u path sums (counts_in cells.values) kept.counting.sorted (find-counts_in cells.values kept.held.ordered path ∙ (least 0).found) (least 0).over by
    where
      by : (r : List ℕ) (m : ℕ × ℕ) → find order r (counts_in cells.values) ≡ Some m → order u r ≡ Less → order r path ≡ Less → ⊥
      by [] m found over less = let is = long [] m found in let some = kept.counting.some in omega arith
      by (s ∷ q) m found over less = (least s).least q m (long (s ∷ q) m found ∙ sym size) (told (s ∷ q) m found) over less

-- no counted window is above the cursor
pub none_next : (c : Counting) (cells : ValuedFamilies (Option (ℕ × ℕ))) (len : ℕ) (u floor : List ℕ) (k : ℕ) → counting_of cells len ≡ c → AreCounting cells len → floor ≡ u → k ≡ len → NoneAbove cells.values [] floor k → windows_above u c.counts ≡ []
none_next c cells len u floor k is kept same size none =
    sym (ap (λ (d : Counting). windows_above u d.counts) is) ∙ ap (λ x. windows_above x (counts_in cells.values)) (sym same) ∙ none_here cells len kept floor k size none

-- the least one
pub least_next : (c : Counting) (cells : ValuedFamilies (Option (ℕ × ℕ))) (len : ℕ) (u floor path v : List ℕ) (sums : ℕ × ℕ) → counting_of cells len ≡ c → AreCounting cells len → floor ≡ u → length path ≡ len → v ≡ path → LeastAbove cells.values [] floor path sums
    → windows_above u c.counts ≡ (v, sums) ∷ windows_above v c.counts
least_next c cells len u floor path v sums is kept same size at least =
    sym (ap (λ (d : Counting). windows_above u d.counts) is) ∙ ap (λ x. windows_above x (counts_in cells.values)) (sym same)
    ∙ least_here cells len kept floor path sums size least
    ∙ ap (λ x. (x, sums) ∷ windows_above x (counts_in cells.values)) (sym at) ∙ ap (λ (d : Counting). (v, sums) ∷ windows_above v d.counts) is
