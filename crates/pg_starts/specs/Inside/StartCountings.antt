-- The windows that are counted in a pass, by the numbers of their starts.
use Rattle.std.specs.Prelude.{◌≡◌, ℕ, ◌≤◌, true, List, length, slice_index_or, None, Some}
use Rattle.pg_types.specs.Inside.counting.Counts.{Counts}
use Rattle.pg_types.specs.Inside.counting.NumberedWindows.{Windows}
use Rattle.pg_starts.specs.declared.start_counts.StartCounts.{StartCounts}
use Rattle.pg_starts.specs.Inside.CountsByNumber.{counts_by}
use Rattle.pg_starts.specs.Inside.Tallies.{tallied}
use Rattle.pg_starts.specs.Inside.Known.{AreKnown, is_numbered, number_at, number_count, windows_of}

-- the windows of a length are numbered, each number has a place for its sums, and each number that
-- was counted is that of a start
pub record AreCounting (signs : List ℕ) (c : StartCounts) : Type 0 where
  pub known : AreKnown signs c.numbers
  pub some : 1 ≤ c.numbers.len
  pub size : length (tallied c.tallies) ≡ number_count c.numbers
  pub from : (k : ℕ) (s : ℕ × ℕ) → slice_index_or (tallied c.tallies) k None ≡ Some s
      → (i : ℕ) × (is_numbered signs c.numbers i ≡ true) × (number_at signs c.numbers i ≡ k)

-- the windows in the order of their numbers, which is that of signs
abbrev pub windows_in : List ℕ → StartCounts → Windows
windows_in signs c = windows_of signs c.numbers

-- the windows that were counted, with their sums
abbrev pub counts_in : List ℕ → StartCounts → Counts
counts_in signs c = counts_by (windows_in signs c) (tallied c.tallies)
