-- The packed table file of patterns.
use Rattle.std.specs.Prelude.{ℕ, ◌+◌, if◌then◌else◌, nat_eq, unwrap_or, List, [], ◌∷◌, ◌++◌, length, map, fold, reverse, replicate, position, codes}
use Rattle.std.specs.List.{flat_map, find, list_any, range_with_len}
use Rattle.std.specs.Option.{option_map_or}
use Rattle.std.specs.Cmp.Lexicographic.{pointwise}
use Rattle.pg_types.specs.Placement.{Families, entered_families, top, base_of}
use Rattle.pg_types.specs.Tails.{outputs_of, suffixes, same_pair}
use Rattle.pg_types.specs.declared.packed_table.TheConstants.{CELL_LEN}
use Rattle.pg_patterns.specs.Values.{Patterns}
use Rattle.pg_patterns.specs.Texts.{strings_of}
use Rattle.pg_table.specs.Numbers.{bytes_of_number}

-- the lists that get a record, each once: string by string, the ends of its list, shortest first
abbrev pub recorded_lists : Patterns → List (List (ℕ × ℕ))
recorded_lists P = fold (λ lists l. if list_any (pointwise same_pair l) lists then lists
    else lists ++ l ∷ []) [] (flat_map (λ q. reverse (suffixes (outputs_of P q))) (strings_of P))

-- the head of a list: the number of its record, counted from 1, and 0 for the empty list
abbrev pub head_among : List (List (ℕ × ℕ)) → List (ℕ × ℕ) → ℕ
head_among lists l = option_map_or (λ i. i + 1) (position (pointwise same_pair l) lists) 0

-- the record of a list: the value and the dot of its first pair, and the head of its rest
abbrev pub bytes_of_record : List (List (ℕ × ℕ)) → List (ℕ × ℕ) → List ℕ
bytes_of_record lists [] = []
bytes_of_record lists (x ∷ l) = x.1 ∷ x.0 ∷ bytes_of_number 4 (head_among lists l)

-- the cells in use: each with its number, its sign and its string
abbrev pub cells_in_use : Families → List (ℕ × ℕ × List ℕ)
cells_in_use fs = flat_map (λ e. map (λ s. (e.1.base + s, s, e.0 ++ s ∷ [])) e.1.signs) fs

-- the cell with this number: its sign, the base of the family below its string, and the head of
-- the string's list; all 0 where it is not in use
abbrev pub bytes_of_cell : Families → (List ℕ → ℕ) → ℕ → List ℕ
bytes_of_cell fs heads at = option_map_or (λ c. bytes_of_number 2 c.1
    ++ bytes_of_number 4 (unwrap_or (base_of fs c.2) 0) ++ bytes_of_number 4 (heads c.2))
    (find (λ c. nat_eq at c.0) (cells_in_use fs)) (replicate CELL_LEN 0)

-- the packed table file of P with the greatest sign n: the head, the cells, and the records
unfoldable pub table_text : ℕ → Patterns → List ℕ
table_text n P = let fs = entered_families n (map (λ e. e.0.0) P) in let lists = recorded_lists P in
    codes "PGT1" ++ bytes_of_number 4 n ++ bytes_of_number 4 (top fs + 1)
    ++ bytes_of_number 4 (length lists) ++ flat_map (bytes_of_cell fs (λ q.
    head_among lists (outputs_of P q))) (range_with_len 0 (top fs + 1))
    ++ flat_map (bytes_of_record lists) lists
