-- Where the cells and records of a packed table file begin, how long it is, and whether its
-- sizes fit it.
use Rattle.std.specs.Prelude.{ℕ, ◌+◌, ◌*◌, Bool, ◌&&◌, nat_eq, nat_lt, nat_le, List, slice_index}
use Rattle.pg_types.specs.declared.limits.TheConstants.{SIGNS_MAX}
use Rattle.pg_outputs.specs.declared.records.Record.{Record}
use Rattle.pg_table.specs.declared.parts.sizes.Sizes.{Sizes}
use Rattle.pg_types.specs.declared.packed_table.TheConstants.{CELL_LEN, HEAD_LEN, RECORD_LEN, TABLE_MAX}
use Rattle.pg_table.specs.Numbers.{number_of_bytes}

-- where a cell begins
abbrev pub cell_start : ℕ → ℕ
cell_start at = HEAD_LEN + CELL_LEN * at

-- where the record with the number i begins, behind n cells
abbrev pub record_start : ℕ → ℕ → ℕ
record_start n i = cell_start n + RECORD_LEN * i

-- the record that begins at a place
abbrev pub read_record : List ℕ → ℕ → Record
read_record b start =
    record {
      value = slice_index b start;
      dot = slice_index b (start + 1);
      next = number_of_bytes 4 b (start + 2);
    }

-- the length of a file with these sizes
abbrev pub file_len : Sizes → ℕ
file_len h = HEAD_LEN + CELL_LEN * h.cells + RECORD_LEN * h.records

-- sizes are in their ranges, and agree with the length of the file
abbrev pub sizes_fit : Sizes → ℕ → Bool
sizes_fit h len = nat_eq len (file_len h) && nat_le len TABLE_MAX
    && nat_le 1 h.signs && nat_le h.signs SIGNS_MAX && nat_lt h.signs h.cells
