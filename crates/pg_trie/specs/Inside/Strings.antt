-- The list of the strings that have a cell.
use Rattle.std.specs.Prelude.{◌≡◌, ℕ, ◌+◌, ◌<◌, ◌≤◌, List, [], ◌∷◌, ◌++◌, length, slice_get, Some, ◌⊎◌}
use Rattle.std.specs.Ordering.{nat_cmp}
use Rattle.std.specs.Cmp.Lexicographic.{slice_cmp}
use Rattle.std.specs.FinMap.{find}
use Rattle.pg_types.specs.declared.limits.TheConstants.{PATTERN_SIGNS_MAX}
use Rattle.pg_types.specs.Inside.Signs.{SignsWithin}
use Rattle.pg_types.specs.Inside.Placing.{cell_of}
use Rattle.pg_cells.specs.Inside.linked.ValuedFamilies.{ValuedFamilies}

-- strings with a value are short
abbrev pub HasShortStrings : ValuedFamilies ℕ → Type 0
HasShortStrings h = (q : List ℕ) (v : ℕ) → find (slice_cmp nat_cmp) q h.values ≡ Some v
    → length q ≤ PATTERN_SIGNS_MAX

-- a string that has a cell
pub record IsString (h : ValuedFamilies ℕ) (q : List ℕ) : Type 0 where
  pub celled : (cell : ℕ) × (cell_of h.families q ≡ Some cell)
  pub known : SignsWithin h.signs q
  pub few : length q ≤ PATTERN_SIGNS_MAX

-- the string q is put into the list, from the number i on
abbrev pub StandsFrom : List (List ℕ × ℕ) → ℕ → List ℕ → Type 0
StandsFrom items i q = (j : ℕ) × (i ≤ j) × (slice_get items j ≡ Some (q, 0))

-- the strings of the family below p whose last sign is below m are put behind the others
pub record PutsBelow (h : ValuedFamilies ℕ) (p : List ℕ)
    (m : ℕ) (old new : List (List ℕ × ℕ)) : Type 0 where
  pub keeps : (j : ℕ) (k : List ℕ × ℕ) → slice_get old j ≡ Some k → slice_get new j ≡ Some k
  pub longer : length old ≤ length new
  pub sound : (j : ℕ) (k : List ℕ × ℕ) → slice_get new j ≡ Some k
      → (slice_get old j ≡ Some k) ⊎ IsString h k.0
  pub below : (s cell : ℕ) → s < m → cell_of h.families (p ++ s ∷ []) ≡ Some cell
      → StandsFrom new (length old) (p ++ s ∷ [])

-- up to the number i, each string of the list stands before those that go on from it by a sign
pub record AreStringsTo (h : ValuedFamilies ℕ) (items : List (List ℕ × ℕ)) (i : ℕ) : Type 0 where
  pub sound : (j : ℕ) (k : List ℕ × ℕ) → slice_get items j ≡ Some k → IsString h k.0
  pub below : (j : ℕ) (k : List ℕ × ℕ) → j < i → slice_get items j ≡ Some k
      → (s cell : ℕ) → cell_of h.families (k.0 ++ s ∷ []) ≡ Some cell
      → StandsFrom items (j + 1) (k.0 ++ s ∷ [])
  pub roots : (s cell : ℕ) → cell_of h.families (s ∷ []) ≡ Some cell → StandsFrom items 0 (s ∷ [])

-- the list has each string, before those that go on from it by a sign
abbrev pub AreStrings : ValuedFamilies ℕ → List (List ℕ × ℕ) → Type 0
AreStrings h items = AreStringsTo h items (length items)
