-- The statuses of a word's positions by the values that were found.
use Rattle.std.specs.Prelude.{ℕ, nat_le, ◌&&◌, true, false, if◌then◌else◌, List, slice_index, slice_index_or}
use Rattle.pg_types.specs.declared.marks.Mark.{Mark}
use Rattle.pg_dict.specs.Word.{Word}
use Rattle.pg_select.specs.Statuses.{status}

-- the status of a position by the values that were found; out of reach its value is 0
abbrev pub status_found : List ℕ → ℕ × ℕ → Word → ℕ → Mark
status_found values reach w p = status (slice_index_or w.hyphens p false)
    (slice_index_or w.cares p true)
    (if nat_le reach.0 p && nat_le p reach.1 then slice_index values p else 0)
