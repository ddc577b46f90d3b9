-- The first false line, found by the numbers of lines, and what is shown and printed of it.
use Rattle.std.specs.Prelude.{◌≡◌, ◌≢◌, ℕ, ◌+◌, ◌<◌, List, [], length, take, Option, slice_get, unwrap_or, option_map}
use Rattle.pg_audit.specs.Differences.{whole_lines, first_false}
use Rattle.pg_audit.specs.FoundLines.{found_text}

-- the line with this number, counted from 0, where a file has it
abbrev pub line_at : List ℕ → ℕ → Option (List ℕ)
line_at bytes k = slice_get (whole_lines bytes) k

-- the least line at which two files differ, with what the given one has there
pub record IsFirstFalse (given wanted : List ℕ) (d : ℕ × List ℕ) : Type 0 where
  pub before : (k : ℕ) → k + 1 < d.0 → line_at given k ≡ line_at wanted k
  pub differs : (k : ℕ) → d.0 ≡ k + 1 → line_at given k ≢ line_at wanted k
  pub found : (k : ℕ) → d.0 ≡ k + 1 → d.1 ≡ unwrap_or (line_at given k) []

-- a difference with no more than the first n bytes of its line
abbrev pub shown_difference : ℕ → ℕ × List ℕ → ℕ × List ℕ
shown_difference n d = (d.0, take n d.1)

-- the first false line of a given file, with no more than its first n bytes
abbrev pub first_false_shown : ℕ → List ℕ → List ℕ → Option (ℕ × List ℕ)
first_false_shown n given wanted = option_map (shown_difference n) (first_false given wanted)

-- what is printed of a difference: the number of its line, and what was found
abbrev pub printed_of : ℕ × List ℕ → ℕ × List ℕ
printed_of d = (d.0, found_text d.1)

-- what is printed of the first false line of a given file
abbrev pub first_false_printed : List ℕ → List ℕ → Option (ℕ × List ℕ)
first_false_printed given wanted = option_map printed_of (first_false given wanted)

-- the first part of a given file: n bytes more than the wanted file has
abbrev pub first_part : ℕ → List ℕ → List ℕ → List ℕ
first_part n given wanted = take (length wanted + n) given
