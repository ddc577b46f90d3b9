-- What is known of the numbers of the windows of a length.
use Rattle.std.specs.Prelude.{◌≡◌, ℕ, ◌+◌, ◌≤◌, ◌<◌, nat_le, Bool, not, ◌&&◌, ◌||◌, if◌then◌else◌, List, length, map, slice_index}
use Rattle.pg_types.specs.Inside.Limits.{positions_limit}
use Rattle.pg_types.specs.Inside.counting.NumberedWindows.{Windows}
use Rattle.pg_starts.specs.declared.start_numbers.StartNumbers.{StartNumbers}
use Rattle.pg_dots.specs.Inside.Starts.{is_left_out, starts_room}
use Rattle.pg_starts.specs.Inside.Codes.{code_at, code_count, coded_windows}
use Rattle.pg_starts.specs.Inside.Starts.{has_window, window_from, window_order}
use Rattle.pg_starts.specs.Inside.Orders.{AreNumbers}

-- a code has a digit for each sign, so its radix is above the greatest sign
abbrev pub radix_of : StartNumbers → ℕ
radix_of n = n.greatest + 1

-- the number of a window is the code of its signs
abbrev pub is_coded : StartNumbers → Bool
is_coded n = nat_le n.len n.coded

-- a window begins at a sign and has a number: each one where it is coded, else those of the starts
abbrev pub is_numbered : List ℕ → StartNumbers → ℕ → Bool
is_numbered signs n i = (is_coded n || not (is_left_out n.starts i))
    && nat_le (i + n.len) (length signs)

-- the number of the window at a start
abbrev pub number_at : List ℕ → StartNumbers → ℕ → ℕ
number_at signs n i =
    if is_coded n then code_at signs (radix_of n) i n.len else slice_index n.numbers.items i

-- how many numbers there are
abbrev pub number_count : StartNumbers → ℕ
number_count n = if is_coded n then code_count (radix_of n) n.len else length n.firsts.items

-- the windows in the order of their numbers
abbrev pub windows_of : List ℕ → StartNumbers → Windows
windows_of signs n =
    if is_coded n then coded_windows (radix_of n) n.len
    else map (λ i. window_from signs i n.len) n.firsts.items

-- each start has the code of its window, where there are few codes, else a number among starts
pub record AreKnown (signs : List ℕ) (n : StartNumbers) : Type 0 where
  pub small : length signs < positions_limit
  pub room : length signs ≤ starts_room n.starts
  pub next_room : length signs ≤ starts_room n.next
  pub greatest : (k : ℕ) → slice_index signs k ≤ n.greatest
  pub codes : (len : ℕ) → 1 ≤ len → len ≤ n.coded → code_count (radix_of n) len ≤ length signs
  pub few : n.coded < n.len → length n.firsts.items ≤ length signs
  pub size : 1 ≤ n.len → length n.numbers.items ≡ length signs
  pub coded : 1 ≤ n.len → n.len ≤ n.coded → (i : ℕ) → i + n.len ≤ length signs
      → slice_index n.numbers.items i ≡ code_at signs (radix_of n) i n.len
  pub numbers : n.coded < n.len → AreNumbers (window_order signs n.len)
      (has_window signs n.starts n.len) n.numbers.items n.firsts.items
