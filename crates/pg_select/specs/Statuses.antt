-- The status of a position. Position p of a word is the place behind its first p signs, the edge
-- before its letters among them, and dot d of a string the place behind its first d signs.
use Rattle.std.specs.Prelude.{ℕ, ◌%◌, ◌==◌, Bool, false, true, if◌then◌else◌, slice_index, slice_index_or}
use Rattle.pg_types.specs.declared.marks.Mark.{Mark}
use Rattle.pg_types.specs.declared.marks.Mark.TheVariants.{Nothing, Error, Missed, Found, DontCare}
use Rattle.pg_dict.specs.Word.{Word}
use Rattle.pg_patterns.specs.Values.{Patterns, value_at}

-- whether a number is odd: odd values break the word, and odd levels find breaks
abbrev pub is_odd : ℕ → Bool
is_odd n = n % 2 == 1

-- the status of a position with this hyphen, care and value
abbrev pub status : Bool → Bool → ℕ → Mark
status hyphen care value = if care then (if hyphen then (if is_odd value then Found else Missed)
    else (if is_odd value then Error else Nothing)) else DontCare

-- the status of a position of a word that has the value v
abbrev pub status_with : Word → ℕ → ℕ → Mark
status_with w p v = status (slice_index_or w.hyphens p false) (slice_index_or w.cares p true) v

-- the status of a position in reach, by the patterns
abbrev pub status_at : Patterns → Word → ℕ → Mark
status_at P w p = status_with w p (value_at P w.signs p)

-- the weight of a position
abbrev pub position_weight : Word → ℕ → ℕ
position_weight w p = slice_index w.weights p
