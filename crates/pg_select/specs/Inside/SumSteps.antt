-- Totals with more positions, and the room that they have.
use Rattle.std.specs.Prelude.{ℕ, ◌+◌, ◌*◌, ◌≤◌, Bool, true, false, List}
use Rattle.pg_types.specs.declared.limits.TheConstants.{WEIGHT_MAX, FILE_MAX}
use Rattle.pg_types.specs.declared.marks.Mark.{Mark}
use Rattle.pg_types.specs.declared.marks.Mark.TheVariants.{Error, Missed, Found}
use Rattle.pg_types.specs.declared.marks.Totals.{Totals}
use Rattle.pg_translate.specs.Alphabets.{Alphabet}
use Rattle.pg_dict.specs.Word.{Word}
use Rattle.pg_patterns.specs.Values.{Patterns}
use Rattle.pg_select.specs.Statuses.{status_at}
use Rattle.pg_select.specs.Sums.{marks_by, weight_of}

-- the status and the weight of each position in reach of a word, by the patterns
abbrev pub marks_in : Alphabet → Patterns → Word → List (Mark × ℕ)
marks_in T P w = marks_by T (status_at P w) w

-- whether the mark is Found: a hyphen at which the patterns break
abbrev pub is_found : Mark → Bool
is_found Found = true
is_found other = false

-- whether the mark is Error: no hyphen, but the patterns break there
abbrev pub is_error : Mark → Bool
is_error Error = true
is_error other = false

-- whether the mark is Missed: a hyphen at which the patterns do not break
abbrev pub is_missed : Mark → Bool
is_missed Missed = true
is_missed other = false

-- the three sums of totals together
abbrev pub sum_of : Totals → ℕ
sum_of t = t.good + t.bad + t.missed

-- totals with a position more
abbrev pub with_mark : Totals → Mark → ℕ → Totals
with_mark t Found weight = record t { good = t.good + weight }
with_mark t Error weight = record t { bad = t.bad + weight }
with_mark t Missed weight = record t { missed = t.missed + weight }
with_mark t other weight = t

-- totals with more positions
abbrev pub with_marks : Totals → List (Mark × ℕ) → Totals
with_marks t marks = record {
  good = t.good + weight_of is_found marks;
  bad = t.bad + weight_of is_error marks;
  missed = t.missed + weight_of is_missed marks;
}

-- at most n positions more turned the old totals into the new ones
abbrev pub TookRoomFor : Totals → Totals → ℕ → Type 0
TookRoomFor old new n = sum_of new ≤ sum_of old + WEIGHT_MAX * n

-- totals have room for n more positions, in a dictionary of the greatest size
abbrev pub HasRoomFor : Totals → ℕ → Type 0
HasRoomFor t n = sum_of t + WEIGHT_MAX * n ≤ WEIGHT_MAX * FILE_MAX
