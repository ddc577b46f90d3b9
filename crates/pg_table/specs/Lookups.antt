-- What a packed table file says: the list of a string, its values, the values of the positions of a
-- word, and the totals.
use Rattle.std.specs.Prelude.{ℕ, ◌+◌, ◌-◌, Bool, ◌&&◌, nat_eq, nat_lt, nat_le, max, if◌then◌else◌, List, [], ◌∷◌, length, map, filter, fold, take, drop}
use Rattle.std.specs.List.{flat_map, range_with_len}
use Rattle.pg_types.specs.declared.limits.TheConstants.{PATTERN_SIGNS_MAX}
use Rattle.pg_types.specs.declared.marks.Totals.{Totals}
use Rattle.pg_translate.specs.Alphabets.{Alphabet}
use Rattle.pg_dict.specs.Word.{Word}
use Rattle.pg_outputs.specs.Lists.{list_of}
use Rattle.pg_select.specs.Statuses.{status_with}
use Rattle.pg_select.specs.Sums.{marks_by, totals_of}
use Rattle.pg_table.specs.Forms.{sizes_of, cell_at, records_of}

-- the family at the base has the sign: the cell of the sign is there, and has it
abbrev pub cell_has_sign : List ℕ → ℕ → ℕ → Bool
cell_has_sign b base s =
    nat_lt (base + s) (sizes_of b).cells && nat_eq (cell_at b (base + s)).sign s

-- the list of the string q below the family at the base; it is empty where a cell is missing
abbrev pub lookup_from : List ℕ → ℕ → List ℕ → List (ℕ × ℕ)
lookup_from b base [] = []
lookup_from b base (s ∷ []) = if cell_has_sign b base s
    then list_of (records_of b) (cell_at b (base + s)).head else []
lookup_from b base (s ∷ t ∷ q) = if cell_has_sign b base s && nat_lt 0 (cell_at b (base + s)).child
    then lookup_from b (cell_at b (base + s)).child (t ∷ q) else []

-- the list of the string q
unfoldable pub lookup : List ℕ → List ℕ → List (ℕ × ℕ)
lookup b q = lookup_from b 0 q

-- the greatest value of the string q at the dot d, 0 where it has none
abbrev pub table_entry : List ℕ → List ℕ → ℕ → ℕ
table_entry b q d = fold max 0 (map (λ x. x.0) (filter (λ x. nat_eq x.1 d) (lookup b q)))

-- the value that the n signs of w from i on give to position p, which is their dot p - i
abbrev pub value_from : List ℕ → List ℕ → ℕ → ℕ → ℕ → ℕ
value_from b w p i n = if nat_le (i + n) (length w) && (nat_le i p && nat_le (p - i) n)
    then table_entry b (take n (drop i w)) (p - i) else 0

-- the value of position p of w: the greatest of all strings of 1 to 32 signs that stand in w
unfoldable pub table_value : List ℕ → List ℕ → ℕ → ℕ
table_value b w p = fold max 0 (flat_map
    (λ i. map (value_from b w p i) (range_with_len 1 PATTERN_SIGNS_MAX))
    (range_with_len 0 (length w)))

-- the totals of all words by the table
abbrev pub table_totals : Alphabet → List Word → List ℕ → Totals
table_totals m words b = totals_of (flat_map
    (λ w. marks_by m (λ p. status_with w p (table_value b w.signs p)) w) words)
