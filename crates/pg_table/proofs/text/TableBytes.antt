-- The bytes of a table are those of its cells and records.
use Rattle.std.proofs.Common.{◌≡◌, ℕ, suc, ◌+◌, List, [], ◌∷◌, ◌++◌, length, map, replicate, slice_get, Option, None, Some, refl, sym, ◌∙◌, ap}
use Rattle.std.specs.Prelude.{nat_eq, unwrap_or, codes}
use Rattle.std.specs.List.{find, flat_map, range_with_len}
use Rattle.std.specs.Option.{option_map_or}
use Rattle.std.proofs.lemmas.List.{length-map}
use Rattle.std.proofs.lemmas.List.FromFn.{length-map-range_with_len}
use Rattle.pg_types.specs.Placement.{Families, top, base_of}
use Rattle.pg_types.specs.declared.packed_table.TheConstants.{CELL_LEN}
use Rattle.pg_patterns.specs.Values.{Patterns}
use Rattle.pg_patterns.specs.Inside.PatternMaps.{IsPatternMap}
use Rattle.pg_table.specs.declared.parts.cell.Cell.{Cell}
use Rattle.pg_table.specs.Numbers.{bytes_of_number}
use Rattle.pg_table.specs.Texts.{recorded_lists, bytes_of_record, cells_in_use, bytes_of_cell, table_text}
use Rattle.pg_table.specs.Inside.text.Files.{record_of, cell_of_table, cell_bytes, record_bytes, head_in, table_families, table_cells, table_records, file_of}
use Rattle.pg_table.proofs.text.RecordedStrings.{recorded_ordered}

-- one cell
cell_written : (fs : Families) (heads : List ℕ → ℕ) (at : ℕ) → cell_bytes (cell_of_table fs heads at) ≡ bytes_of_cell fs heads at
unfolding bytes_of_number
cell_written fs heads at = found (find (λ c. nat_eq at c.0) (cells_in_use fs))
  where
    found : (o : Option (ℕ × ℕ × List ℕ)) → cell_bytes (option_map_or {U = Cell} (λ c. record { sign = c.1; child = unwrap_or (base_of fs c.2) 0; head = heads c.2 }) o (record { sign = 0; child = 0; head = 0 }))
        ≡ option_map_or (λ c. bytes_of_number 2 c.1 ++ bytes_of_number 4 (unwrap_or (base_of fs c.2) 0) ++ bytes_of_number 4 (heads c.2)) o (replicate CELL_LEN 0)
    found None = refl
    found (Some c) = refl

-- all cells
cells_written : (fs : Families) (heads : List ℕ → ℕ) (numbers : List ℕ) → flat_map cell_bytes (map (cell_of_table fs heads) numbers) ≡ flat_map (bytes_of_cell fs heads) numbers
cells_written fs heads [] = refl
cells_written fs heads (at ∷ numbers) =
    ap (λ cell. cell ++ flat_map cell_bytes (map (cell_of_table fs heads) numbers)) (cell_written fs heads at)
    ∙ ap (λ rest. bytes_of_cell fs heads at ++ rest) (cells_written fs heads numbers)

-- all records, where no list is empty
records_written : (lists ls : List (List (ℕ × ℕ))) → ((i : ℕ) (l : List (ℕ × ℕ)) → slice_get ls i ≡ Some l → (x : ℕ × ℕ) × (rest : List (ℕ × ℕ)) × (l ≡ x ∷ rest))
    → flat_map record_bytes (map (record_of lists) ls) ≡ flat_map (bytes_of_record lists) ls
records_written lists [] some = refl
records_written lists (l ∷ ls) some =
    let first = some 0 l refl in
    ap (λ (m : List (ℕ × ℕ)). record_bytes (record_of lists m) ++ flat_map record_bytes (map (record_of lists) ls)) first.2
    ∙ ap (λ rest. bytes_of_record lists (first.0 ∷ first.1) ++ rest) (records_written lists ls (λ i m at. some (suc i) m at))
    ∙ ap (λ (m : List (ℕ × ℕ)). bytes_of_record lists m ++ flat_map (bytes_of_record lists) ls) (sym first.2)

module _ (n : ℕ) (P : Patterns) where
  -- a file with this number of cells, of records, and these bytes of them
  abbrev file_with : ℕ → ℕ → List ℕ → List ℕ → List ℕ
  file_with cells records row listed = codes "PGT1" ++ bytes_of_number 4 n ++ bytes_of_number 4 cells ++ bytes_of_number 4 records ++ row ++ listed

  pub text_parts : IsPatternMap P → file_of n (table_cells n P) (table_records P) ≡ table_text n P
  unfolding table_text
  text_parts sound =
      let fs : Families = table_families n P in
      let lists : List (List (ℕ × ℕ)) = recorded_lists P in
      let row : List ℕ = flat_map cell_bytes (table_cells n P) in
      let listed : List ℕ = flat_map record_bytes (table_records P) in
      ap (λ k. file_with k (length (table_records P)) row listed) (length-map-range_with_len (cell_of_table fs (head_in P)) 0 (top fs + 1))
      ∙ ap (λ k. file_with (top fs + 1) k row listed) (length-map lists (record_of lists))
      ∙ ap (λ bytes. file_with (top fs + 1) (length lists) bytes listed) (cells_written fs (head_in P) (range_with_len 0 (top fs + 1)))
      ∙ ap (λ bytes. file_with (top fs + 1) (length lists) (flat_map (bytes_of_cell fs (head_in P)) (range_with_len 0 (top fs + 1))) bytes)
      (records_written lists lists (λ i l at. let is = (recorded_ordered P sound.sound).each i l at in (is.first, is.rest, is.whole)))
