-- The list of a string is the one that the maps tell.
use Rattle.std.proofs.Common.{◌≡◌, ℕ, ◌+◌, List, [], ◌++◌, length, suc, zero, Option, None, Some, refl, sym, ◌∙◌, ap, arith}
use Rattle.std.specs.List.{flat_map, range_with_len}
use Rattle.std.specs.FinMap.Entries.{find}
use Rattle.pg_patterns.specs.DottedSigns.{dotted_cmp}
use Rattle.pg_outputs.specs.declared.records.Record.{Record}
use Rattle.pg_outputs.specs.Lists.{list_of}
use Rattle.pg_cells.specs.Inside.linked.ValuedFamilies.{ValuedFamilies}
use Rattle.pg_cells.proofs.StringMaps.{order}
use Rattle.pg_trie.specs.Inside.IsPatternTrie.{IsPatternTrie}
use Rattle.pg_trie.specs.Inside.Lists.{outputs_at, outputs_at_dot, value_part, hopeless_part}
use Rattle.pg_trie.specs.Inside.Maps.{maps_of, as_value, as_hopeless}
use Rattle.pg_trie.proofs.ListLaws.Found.{found_at, find-entries}
use Rattle.pg_trie.proofs.ListLaws.Rebuilt.{part, same_parts, rebuilt}

-- what the maps have at a dot of a string, by the head of the string
part_at : (ℕ → List (ℕ × ℕ)) → Option ℕ → ℕ → List (ℕ × ℕ)
part_at f o d = value_part (found_at as_value f d o) d ++ hopeless_part (found_at as_hopeless f d o) d

at_dot : (cells : ValuedFamilies ℕ) (records : List Record) → IsPatternTrie cells records → (q : List ℕ) (d : ℕ) → outputs_at_dot (maps_of cells records).patterns (maps_of cells records).hopeless q d
    ≡ part_at (list_of records) (find order q cells.values) d
unfolding part_at
at_dot cells records is q d =
    ap (λ o. value_part o d ++ hopeless_part (find dotted_cmp (q, d) (maps_of cells records).hopeless) d) (find-entries as_value (list_of records) cells.values q d is.held.ordered)
    ∙ ap (λ o. value_part (found_at as_value (list_of records) d (find order q cells.values)) d ++ hopeless_part o d) (find-entries as_hopeless (list_of records) cells.values q d is.held.ordered)

pub list_is : (cells : ValuedFamilies ℕ) (records : List Record) → IsPatternTrie cells records → (q : List ℕ) (head : ℕ) → find order q cells.values ≡ Some head
    → list_of records head ≡ outputs_at (maps_of cells records).patterns (maps_of cells records).hopeless q
unfolding outputs_at part_at
list_is cells records is q head at =
    let h = is.heads q head at in
    sym (
    same_parts (outputs_at_dot (maps_of cells records).patterns (maps_of cells records).hopeless q) (part (list_of records head)) 0 (length q + 1)
    (λ d le. at_dot cells records is q d ∙ ap (λ o. part_at (list_of records) o d) at)
    ∙ rebuilt (length q + 1) 0 (length q) (list_of records head) h.rises h.dots (omega arith)
    )

no_parts : (a n : ℕ) → flat_map (λ (d : ℕ). let l : List (ℕ × ℕ) = [] in l) (range_with_len a n) ≡ []
no_parts a zero = refl
no_parts a (suc n) = no_parts (a + 1) n

pub none_is : (cells : ValuedFamilies ℕ) (records : List Record) → IsPatternTrie cells records → (q : List ℕ) → find order q cells.values ≡ None
    → outputs_at (maps_of cells records).patterns (maps_of cells records).hopeless q ≡ []
unfolding outputs_at part_at
none_is cells records is q none =
    same_parts (outputs_at_dot (maps_of cells records).patterns (maps_of cells records).hopeless q) (λ d. []) 0 (length q + 1)
    (λ d le. at_dot cells records is q d ∙ ap (λ o. part_at (list_of records) o d) none)
    ∙ no_parts 0 (length q + 1)
