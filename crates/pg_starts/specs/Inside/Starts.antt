-- The starts of windows, and the windows that begin there.
use Rattle.std.specs.Prelude.{ℕ, ◌+◌, ◌/◌, ◌%◌, ◌==◌, nat_le, Bool, not, ◌&&◌, if◌then◌else◌, List, length, slice_index, take, drop}
use Rattle.std.specs.declared.cmp.Ordering.{Ordering}
use Rattle.std.specs.Ordering.{nat_cmp}
use Rattle.std.specs.Cmp.Lexicographic.{slice_cmp}
use Rattle.pg_dots.specs.declared.start_set.StartSet.{StartSet}
use Rattle.pg_dots.specs.Inside.Starts.{is_left_out}

-- the window of so many signs from a start on
abbrev pub window_from : List ℕ → ℕ → ℕ → List ℕ
window_from signs start len = take len (drop start signs)

-- a sign is a start of the set, and its window of this length ends among the signs
abbrev pub has_window : List ℕ → StartSet → ℕ → ℕ → Bool
has_window signs s len i = not (is_left_out s i) && nat_le (i + len) (length signs)

-- how the windows of two starts compare, in the order of signs
abbrev pub window_order : List ℕ → ℕ → ℕ → ℕ → Ordering
window_order signs len i j =
    slice_cmp nat_cmp (window_from signs i len) (window_from signs j len)

-- a sign is taken in three parts below 64, of which that with the number 2 is the highest
abbrev pub part_of : ℕ → ℕ → ℕ
part_of k sign = if k == 2 then sign / 4096 else (if k == 1 then sign / 64 % 64 else sign % 64)

-- the part of the sign that stands so many signs behind a start
abbrev pub part_behind : List ℕ → ℕ → ℕ → ℕ → ℕ
part_behind signs at k i = part_of k (slice_index signs (i + at))
