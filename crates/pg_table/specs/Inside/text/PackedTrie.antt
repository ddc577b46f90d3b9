-- What the cells and the records are when all patterns are entered.
use Rattle.std.specs.Prelude.{◌≡◌, ◌≢◌, ℕ, ◌-◌, ◌<◌, ◌≤◌, ◌⊎◌, List, [], length, map, slice_get, take, drop, Some}
use Rattle.std.specs.Ordering.{nat_cmp}
use Rattle.std.specs.Cmp.Lexicographic.{slice_cmp}
use Rattle.std.specs.FinMap.{find}
use Rattle.pg_types.specs.Inside.Placing.{cell_of}
use Rattle.pg_types.specs.Tails.{outputs_of}
use Rattle.pg_patterns.specs.Values.{Patterns}
use Rattle.pg_patterns.specs.Inside.PatternMaps.{IsPatternMap}
use Rattle.pg_outputs.specs.declared.records.Record.{Record}
use Rattle.pg_cells.specs.Inside.linked.ValuedFamilies.{ValuedFamilies}
use Rattle.pg_cells.specs.Inside.linked.AreValuedFamilies.{AreValuedFamilies}
use Rattle.pg_table.specs.Inside.text.Files.{table_families, table_records, head_in}

-- the entries from `at` to `end` are those of the string q
pub record IsGroup (P : Patterns) (q : List ℕ) (at end : ℕ) : Type 0 where
  pub some : at < end
  pub within : end ≤ length P
  pub each : (j : ℕ) (e : (List ℕ × ℕ) × ℕ) → at ≤ j → j < end → slice_get P j ≡ Some e → e.0.0 ≡ q
  pub ends : (e : (List ℕ × ℕ) × ℕ) → slice_get P end ≡ Some e → e.0.0 ≢ q

-- the dots with their values from `at` to `end`
abbrev pub dot_values : Patterns → ℕ → ℕ → List (ℕ × ℕ)
dot_values P at end = map (λ e. (e.0.1, e.1)) (take (end - at) (drop at P))

-- the strings of the patterns have their cells
pub record IsPacked (n : ℕ) (P : Patterns) (h : ValuedFamilies ℕ) : Type 0 where
  pub held : AreValuedFamilies h
  pub signs : h.signs ≡ n
  pub families : h.families ≡ table_families n P
  pub entered : (q : List ℕ) → outputs_of P q ≢ [] → (c : ℕ) × (cell_of h.families q ≡ Some c)

-- a string has one sign, or begins the string of one of the first patterns
abbrev pub IsReached : Patterns → ℕ → List ℕ → Type 0
IsReached P n q = (length q ≤ 1) ⊎
    ((j : ℕ) × (k : ℕ) × (e : (List ℕ × ℕ) × ℕ) × (j < n)
    × (slice_get P j ≡ Some e) × (q ≡ take k e.0.0))

-- all patterns are entered: the strings with cells are theirs, with the heads of their lists
pub record IsEntered (n : ℕ) (P : Patterns)
    (h : ValuedFamilies ℕ) (records : List Record) : Type 0 where
  pub sound : IsPatternMap P
  pub packed : IsPacked n P h
  pub heads : (q : List ℕ) (v : ℕ) → find (slice_cmp nat_cmp) q h.values ≡ Some v → v ≡ head_in P q
  pub reached : (q : List ℕ) (v : ℕ) → find (slice_cmp nat_cmp) q h.values ≡ Some v
      → IsReached P (length P) q
  pub records_are : records ≡ table_records P
