-- What a count trie is seen as, and how that stands in its cells.
use Rattle.std.specs.Prelude.{◌≡◌, ℕ, ◌≤◌, true, T, List, length, unwrap_or, Option, None}
use Rattle.std.specs.List.{filter_map}
use Rattle.std.specs.Option.{option_map}
use Rattle.std.specs.Ordering.{nat_cmp}
use Rattle.std.specs.Cmp.Lexicographic.{slice_cmp}
use Rattle.std.specs.FinMap.Entries.{find, is_sorted}
use Rattle.pg_types.specs.declared.limits.TheConstants.{LENGTH_MAX}
use Rattle.pg_cells.specs.Inside.linked.ValuedFamilies.{ValuedFamilies}
use Rattle.pg_cells.specs.Inside.linked.AreValuedFamilies.{AreValuedFamilies}
use Rattle.pg_types.specs.Inside.Signs.{SignsWithin}
use Rattle.pg_types.specs.Inside.counting.Counts.{Counts, is_counted}

-- a count trie: the greatest sign, how many signs a window has, and the counts of the windows
pub record Counting : Type 0 where
  pub signs : ℕ
  pub len : ℕ
  pub counts : Counts

-- what is always true of a count trie
pub record IsCounting (c : Counting) : Type 0 where
  pub some : 1 ≤ c.len
  pub len : c.len ≤ LENGTH_MAX
  -- the windows stand in the order of signs
  pub sorted : T (is_sorted (slice_cmp nat_cmp) c.counts)
  -- each has that length, and signs of the table
  pub windows : (u : List ℕ) → is_counted c.counts u ≡ true → length u ≡ c.len
  pub signs : (u : List ℕ) → is_counted c.counts u ≡ true → SignsWithin c.signs u

-- the strings that have a cell, each with its sums where it is counted
abbrev pub Tallies : Type 0
Tallies = List (List ℕ × Option (ℕ × ℕ))

-- the sums of a string that is counted
abbrev pub sums_at : Tallies → List ℕ → Option (ℕ × ℕ)
sums_at tallies q = unwrap_or (find (slice_cmp nat_cmp) q tallies) None

-- the strings that are counted, with their sums
abbrev pub counts_in : Tallies → Counts
counts_in tallies = filter_map (λ e. option_map (λ sums. (e.0, sums)) e.1) tallies

-- a count trie by its cells
abbrev pub counting_of : ValuedFamilies (Option (ℕ × ℕ)) → ℕ → Counting
counting_of cells len = record { signs = cells.signs; len = len; counts = counts_in cells.values }

-- what is always true of the cells
pub record AreCounting (cells : ValuedFamilies (Option (ℕ × ℕ))) (len : ℕ) : Type 0 where
  pub held : AreValuedFamilies cells
  pub counting : IsCounting (counting_of cells len)
