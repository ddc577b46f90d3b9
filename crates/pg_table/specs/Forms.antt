-- The form of a packed table file: a head, cells and records, whose sizes are constants.
use Rattle.std.specs.Prelude.{ℕ, ◌+◌, ◌*◌, Bool, not, ◌&&◌, ◌||◌, nat_eq, nat_lt, nat_le, List, length, map, slice_index, codes}
use Rattle.std.specs.List.{list_all, range_with_len, starts_with}
use Rattle.pg_types.specs.declared.limits.TheConstants.{LEVEL_MAX, PATTERN_SIGNS_MAX, SIGNS_MAX}
use Rattle.pg_outputs.specs.declared.records.Record.{Record}
use Rattle.pg_table.specs.declared.parts.cell.Cell.{Cell}
use Rattle.pg_table.specs.declared.parts.sizes.Sizes.{Sizes}
use Rattle.pg_types.specs.declared.packed_table.TheConstants.{CELL_LEN, HEAD_LEN, RECORD_LEN, TABLE_MAX}
use Rattle.pg_table.specs.Numbers.{number_of_bytes}

-- the sizes of a file: the greatest sign, and how many cells and records it has
abbrev pub sizes_of : List ℕ → Sizes
sizes_of b = let u32 = number_of_bytes 4 b in
    record { signs = u32 4; cells = u32 8; records = u32 12 }

-- the cell with this number
abbrev pub cell_at : List ℕ → ℕ → Cell
cell_at b at = let start = HEAD_LEN + CELL_LEN * at in let u32 = number_of_bytes 4 b in
    record { sign = number_of_bytes 2 b start; child = u32 (start + 2); head = u32 (start + 6) }

-- the record with this number, from 0; the record 0 has the head 1
abbrev pub record_at : List ℕ → ℕ → Record
record_at b i = let at = HEAD_LEN + CELL_LEN * (sizes_of b).cells + RECORD_LEN * i in
    record {
      value = slice_index b at;
      dot = slice_index b (at + 1);
      next = number_of_bytes 4 b (at + 2);
    }

-- all records
abbrev pub records_of : List ℕ → List Record
records_of b = map (record_at b) (range_with_len 0 (sizes_of b).records)

-- a file begins as it should, and its sizes are in range and agree with its length
abbrev pub has_sizes : List ℕ → Bool
has_sizes b = let h = sizes_of b in starts_with nat_eq b (codes "PGT1") && (nat_eq (length b)
    (HEAD_LEN + CELL_LEN * h.cells + RECORD_LEN * h.records) && nat_le (length b) TABLE_MAX
    && nat_le 1 h.signs && nat_le h.signs SIGNS_MAX && nat_lt h.signs h.cells)

-- a cell may stand here: all 0 where it is unused, its own sign in the root, numbers in range
abbrev pub is_sound_cell : Sizes → ℕ → Cell → Bool
is_sound_cell h at c = (nat_lt h.signs at || nat_eq c.sign at)
    && (not (nat_eq c.sign 0) || (nat_eq c.child 0 && nat_eq c.head 0))
    && nat_le c.sign h.signs && nat_lt c.child h.cells && nat_le c.head h.records

-- a record may stand at its place: value 1 to 9, dot to 32, and an earlier record or none behind it
abbrev pub is_sound_record : ℕ → Record → Bool
is_sound_record i r = nat_le 1 r.value && nat_le r.value LEVEL_MAX
    && nat_le r.dot PATTERN_SIGNS_MAX && nat_le r.next i

-- bytes are a packed table file
unfoldable pub is_well_formed : List ℕ → Bool
is_well_formed b = let h = sizes_of b in has_sizes b
    && list_all (λ at. is_sound_cell h at (cell_at b at)) (range_with_len 0 h.cells)
    && list_all (λ i. is_sound_record i (record_at b i)) (range_with_len 0 h.records)
