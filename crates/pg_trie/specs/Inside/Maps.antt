-- A pattern trie as two maps from dotted strings, the families of its strings, and the records of
-- its lists.
use Rattle.std.specs.Prelude.{◌≡◌, ℕ, ◌≤◌, nat_lt, nat_le, if◌then◌else◌, Bool, true, ◌&&◌, T, List, [], ◌∷◌, length, Option, None, Some}
use Rattle.std.specs.List.{flat_map, list_all}
use Rattle.std.specs.FinMap.Entries.{is_sorted}
use Rattle.pg_types.specs.declared.limits.TheConstants.{PATTERN_SIGNS_MAX, SIGNS_MAX}
use Rattle.pg_types.specs.Placement.{Families}
use Rattle.pg_patterns.specs.Values.{Patterns}
use Rattle.pg_patterns.specs.DottedSigns.{dotted_cmp}
use Rattle.pg_patterns.specs.Inside.PatternMaps.{IsPatternMap, SignsUpTo}
use Rattle.pg_outputs.specs.declared.records.Record.{Record}
use Rattle.pg_outputs.specs.Lists.{list_of}
use Rattle.pg_cells.specs.Inside.linked.ValuedFamilies.{ValuedFamilies}
use Rattle.pg_trie.specs.declared.hopeless.TheConstants.{HOPELESS}

-- what a trie holds: its families, the values and the hopeless dotted strings, and the records
pub record Maps : Type 0 where
  pub signs : ℕ
  pub families : Families
  pub patterns : Patterns
  pub hopeless : List ((List ℕ × ℕ) × Unit {0})
  pub records : List Record

-- what an entry of a list adds to the map of values: its value, or nothing where it is hopeless
abbrev pub as_value : ℕ → Option ℕ
as_value v = if nat_lt v HOPELESS then Some v else None

-- what an entry of a list adds to the map of hopeless entries
abbrev pub as_hopeless : ℕ → Option (Unit {0})
as_hopeless v = if nat_lt v HOPELESS then None else Some (tt {0})

module _ {X : Type 0} (pick : ℕ → Option X) where
  -- an entry before others, where there is one
  abbrev pub entry_ahead : List ℕ × ℕ → Option X → List ((List ℕ × ℕ) × X) → List ((List ℕ × ℕ) × X)
  entry_ahead k None es = es
  entry_ahead k (Some v) es = (k, v) ∷ es

  -- the entries of a string by its list
  abbrev pub entries_in : List ℕ → List (ℕ × ℕ) → List ((List ℕ × ℕ) × X)
  entries_in q [] = []
  entries_in q (x ∷ xs) = entry_ahead (q, x.1) (pick x.0) (entries_in q xs)

  -- the entries of all strings by the lists of their heads
  unfoldable pub entries : (ℕ → List (ℕ × ℕ)) → List (List ℕ × ℕ) → List ((List ℕ × ℕ) × X)
  entries f values = flat_map (λ e. entries_in e.0 (f e.1)) values

-- cells whose values are heads of lists, as maps
abbrev pub maps_of : ValuedFamilies ℕ → List Record → Maps
maps_of cells records = record {
  signs = cells.signs;
  families = cells.families;
  patterns = entries as_value (list_of records) cells.values;
  hopeless = entries as_hopeless (list_of records) cells.values;
  records = records;
}

-- a dotted string has 1 to 32 signs, each 1 to n, and its dot is at most their number
abbrev pub is_dotted : ℕ → List ℕ × ℕ → Bool
is_dotted n k = nat_le 1 (length k.0) && nat_le (length k.0) PATTERN_SIGNS_MAX
    && list_all (λ s. nat_le 1 s && nat_le s n) k.0 && nat_le k.1 (length k.0)

-- what every trie keeps: the values are a map of patterns, and the hopeless strings stand in order
pub record AreMaps (m : Maps) : Type 0 where
  pub signs : m.signs ≤ SIGNS_MAX
  pub patterns : IsPatternMap m.patterns
  pub known : SignsUpTo m.signs m.patterns
  pub sorted : T (is_sorted dotted_cmp m.hopeless)
  pub dotted : list_all (λ e. is_dotted m.signs e.0) m.hopeless ≡ true
