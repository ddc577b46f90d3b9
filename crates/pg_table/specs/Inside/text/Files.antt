-- The parts of a packed table file.
use Rattle.std.specs.Prelude.{ℕ, ◌+◌, nat_eq, unwrap_or, List, [], ◌∷◌, ◌++◌, length, map, codes}
use Rattle.std.specs.List.{find, flat_map, range_with_len}
use Rattle.std.specs.Option.{option_map_or}
use Rattle.pg_types.specs.Placement.{Families, entered_families, top, base_of}
use Rattle.pg_types.specs.Tails.{outputs_of}
use Rattle.pg_patterns.specs.Values.{Patterns}
use Rattle.pg_outputs.specs.declared.records.Record.{Record}
use Rattle.pg_table.specs.declared.parts.cell.Cell.{Cell}
use Rattle.pg_table.specs.Numbers.{bytes_of_number}
use Rattle.pg_table.specs.Texts.{recorded_lists, head_among, cells_in_use}

-- the bytes that every file begins with
abbrev pub signature : List ℕ
signature = codes "PGT1"

-- the record of a list
abbrev pub record_of : List (List (ℕ × ℕ)) → List (ℕ × ℕ) → Record
record_of lists [] = record { value = 0; dot = 0; next = 0 }
record_of lists (x ∷ l) = record { value = x.1; dot = x.0; next = head_among lists l }

-- the cell with this number: its sign, base and head of its string; all 0 where it is not in use
abbrev pub cell_of_table : Families → (List ℕ → ℕ) → ℕ → Cell
cell_of_table fs heads at = option_map_or
    (λ c. record { sign = c.1; child = unwrap_or (base_of fs c.2) 0; head = heads c.2 })
    (find (λ c. nat_eq at c.0) (cells_in_use fs)) (record { sign = 0; child = 0; head = 0 })

-- a cell in bytes
abbrev pub cell_bytes : Cell → List ℕ
cell_bytes c = bytes_of_number 2 c.sign ++ bytes_of_number 4 c.child ++ bytes_of_number 4 c.head

-- a record in bytes
abbrev pub record_bytes : Record → List ℕ
record_bytes r = r.value ∷ r.dot ∷ bytes_of_number 4 r.next

-- the head of every string's list
abbrev pub head_in : Patterns → List ℕ → ℕ
head_in P q = head_among (recorded_lists P) (outputs_of P q)

-- the families after the strings of the patterns are entered, from the root of n signs alone
abbrev pub table_families : ℕ → Patterns → Families
table_families n P = entered_families n (map (λ e. e.0.0) P)

-- the cells from 0 to the greatest used one
abbrev pub table_cells : ℕ → Patterns → List Cell
table_cells n P = map (cell_of_table (table_families n P) (head_in P))
    (range_with_len 0 (top (table_families n P) + 1))

-- the records of the lists that get one, in the order of these lists
abbrev pub table_records : Patterns → List Record
table_records P = map (record_of (recorded_lists P)) (recorded_lists P)

-- a file with these cells and records
abbrev pub file_of : ℕ → List Cell → List Record → List ℕ
file_of n cells records = signature ++ bytes_of_number 4 n ++ bytes_of_number 4 (length cells)
    ++ bytes_of_number 4 (length records)
    ++ flat_map cell_bytes cells ++ flat_map record_bytes records
