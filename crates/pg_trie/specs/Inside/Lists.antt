-- The list of a string: its values and hopeless entries by rising dot, each as a value and its dot.
-- A hopeless one is the value HOPELESS, and of one dot the value stands before it.
use Rattle.std.specs.Prelude.{ℕ, ◌+◌, ◌*◌, ◌≤◌, max, nat_lt, nat_eq, if◌then◌else◌, List, [], ◌∷◌, ◌++◌, length, Option, None, Some}
use Rattle.std.specs.List.{flat_map, range_with_len}
use Rattle.std.specs.FinMap.Entries.{find}
use Rattle.pg_patterns.specs.Values.{Patterns}
use Rattle.pg_patterns.specs.DottedSigns.{dotted_cmp}
use Rattle.pg_trie.specs.declared.hopeless.TheConstants.{HOPELESS}
pub use Rattle.pg_cells.specs.Inside.linked.Walks.{IsAt}
pub use Rattle.pg_outputs.specs.Lists.{list_of}

-- a value at a dot, as a list
abbrev pub value_part : Option ℕ → ℕ → List (ℕ × ℕ)
value_part None d = []
value_part (Some v) d = (v, d) ∷ []

-- a hopeless entry at a dot, as a list
abbrev pub hopeless_part : Option (Unit {0}) → ℕ → List (ℕ × ℕ)
hopeless_part None d = []
hopeless_part (Some _) d = (HOPELESS, d) ∷ []

-- what the maps say of the string q at the dot d
abbrev pub outputs_at_dot : Patterns → List ((List ℕ × ℕ) × Unit {0}) → List ℕ → ℕ → List (ℕ × ℕ)
outputs_at_dot P H q d = value_part (find dotted_cmp (q, d) P) d
    ++ hopeless_part (find dotted_cmp (q, d) H) d

-- the list of the string q by the maps P of values and H of hopeless entries
unfoldable pub outputs_at : Patterns → List ((List ℕ × ℕ) × Unit {0}) → List ℕ → List (ℕ × ℕ)
outputs_at P H q = flat_map (outputs_at_dot P H q) (range_with_len 0 (length q + 1))

-- where a value and its dot stand in a list: by the dot, a value before the hopeless entry
abbrev pub rank : ℕ × ℕ → ℕ
rank x = 2 * x.1 + (if nat_lt x.0 HOPELESS then 0 else 1)

-- the list with x: of one rank the greater value counts
abbrev pub list_with : ℕ × ℕ → List (ℕ × ℕ) → List (ℕ × ℕ)
list_with x [] = x ∷ []
list_with x (y ∷ ys) = if nat_lt (rank x) (rank y) then x ∷ y ∷ ys
    else (if nat_eq (rank x) (rank y) then (max x.0 y.0, y.1) ∷ ys else y ∷ list_with x ys)

-- the ranks rise from r on, and each value is 1 to HOPELESS
abbrev pub Rises : ℕ → List (ℕ × ℕ) → Type 0
Rises r [] = Unit {0}
Rises r (x ∷ xs) = (r ≤ rank x) × (1 ≤ x.0) × (x.0 ≤ HOPELESS) × Rises (rank x + 1) xs

-- each dot is at most n
abbrev pub DotsUpTo : ℕ → List (ℕ × ℕ) → Type 0
DotsUpTo n [] = Unit {0}
DotsUpTo n (x ∷ xs) = (x.1 ≤ n) × DotsUpTo n xs
