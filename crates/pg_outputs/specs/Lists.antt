-- Lists that are named by heads. Head 0 is the empty list, and head h is the record at index h - 1:
-- its value and dot, and then the list at its next.
use Rattle.std.specs.Prelude.{ℕ, List, [], ◌∷◌, ◌++◌, fold, get_or}
use Rattle.pg_outputs.specs.declared.records.Record.{Record}

-- the list that a head stands for: record by record, one list more is known
unfoldable pub list_of : List Record → ℕ → List (ℕ × ℕ)
list_of records head = get_or (fold (λ lists r. lists ++ ((r.value, r.dot)
    ∷ get_or lists r.next []) ∷ []) ([] ∷ []) records) head []
