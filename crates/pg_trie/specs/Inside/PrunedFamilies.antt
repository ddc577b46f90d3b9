-- Which strings lose their cells, and what that makes of the families.
use Rattle.std.specs.Prelude.{◌≡◌, ◌≢◌, ℕ, ◌<◌, ◌≤◌, ◌⊎◌, Bool, true, false, List, [], ◌∷◌, ◌++◌, length, None, Some, is_some}
use Rattle.std.specs.List.{flat_map}
use Rattle.std.specs.Ordering.{nat_cmp}
use Rattle.std.specs.Cmp.Lexicographic.{slice_cmp}
use Rattle.std.specs.FinMap.{find}
use Rattle.pg_types.specs.Inside.PlacementSteps.{kept_family}
use Rattle.pg_types.specs.Inside.Placing.{cell_of, without_sign}
use Rattle.pg_cells.specs.Inside.linked.ValuedFamilies.{ValuedFamilies, without_key}
use Rattle.pg_cells.specs.Inside.linked.AreValuedFamilies.{AreValuedFamilies}
use Rattle.pg_cells.specs.Inside.linked.Walks.{EndsBefore}

-- the string lost its cell: it has several signs, no list, and no string goes on from it
pub record IsDropped (old new : ValuedFamilies ℕ) (q : List ℕ) : Type 0 where
  pub front : List ℕ
  pub last : ℕ
  pub whole : q ≡ front ++ last ∷ []
  pub several : front ≢ []
  pub blank : find (slice_cmp nat_cmp) q old.values ≡ Some 0
  pub ends : (x : ℕ) → EndsBefore old.values (q ++ x ∷ [])
  pub families : new.families ≡ without_sign old.families front last
  pub values : new.values ≡ without_key q old.values

-- why no cell is taken from a string: it has none, or one sign, or a list, or others go on from it
abbrev pub IsNeeded : ValuedFamilies ℕ → List ℕ → Type 0
IsNeeded old q = (cell_of old.families q ≡ None) ⊎
    ((length q ≤ 1) ⊎ (((v : ℕ) × (find (slice_cmp nat_cmp) q old.values ≡ Some v) × (v ≢ 0)) ⊎
    ((x : ℕ) × (v : ℕ) × (find (slice_cmp nat_cmp) (q ++ x ∷ []) old.values ≡ Some v))))

-- the string lost its cell where that was not needed, and else nothing changed
pub record Drops (old new : ValuedFamilies ℕ) (q : List ℕ) : Type 0 where
  pub held : AreValuedFamilies new
  pub signs : new.signs ≡ old.signs
  pub either : ((new ≡ old) × IsNeeded old q) ⊎ IsDropped old new q
  pub cells : (r : List ℕ) → r ≢ q → cell_of new.families r ≡ cell_of old.families r

-- the test tells which strings keep their cells: signs, strings with a list, and their prefixes
pub record IsKeep (keep : List ℕ → Bool) (h : ValuedFamilies ℕ) : Type 0 where
  pub single : (q : List ℕ) → length q ≤ 1 → keep q ≡ true
  pub listed : (q : List ℕ) (v : ℕ) → find (slice_cmp nat_cmp) q h.values ≡ Some v
      → v ≢ 0 → keep q ≡ true
  pub goes_on : (q : List ℕ) (x : ℕ) → keep (q ++ x ∷ []) ≡ true → keep q ≡ true
  pub blank : (q : List ℕ) → 1 < length q → find (slice_cmp nat_cmp) q h.values ≡ Some 0
      → ((x v : ℕ) → find (slice_cmp nat_cmp) (q ++ x ∷ []) h.values ≡ Some v
      → keep (q ++ x ∷ []) ≡ false) → keep q ≡ false

-- some strings that are not to keep their cells have lost them
pub record PrunesSome (keep : List ℕ → Bool) (old new : ValuedFamilies ℕ) : Type 0 where
  pub held : AreValuedFamilies new
  pub signs : new.signs ≡ old.signs
  pub either : (q : List ℕ)
      → (find (slice_cmp nat_cmp) q new.values ≡ find (slice_cmp nat_cmp) q old.values) ⊎
      ((find (slice_cmp nat_cmp) q new.values ≡ None) × (keep q ≡ false))
  pub families : new.families
      ≡ flat_map (kept_family (λ q. is_some (find (slice_cmp nat_cmp) q new.values)))
      old.families

-- the string r goes on from q
abbrev pub IsProperPrefix : List ℕ → List ℕ → Type 0
IsProperPrefix q r = (x : ℕ) × (more : List ℕ) × (r ≡ q ++ x ∷ more)

-- of the strings that go on from q by a sign before s, those that are not to keep cells lost them
pub record PrunesTo (old new : ValuedFamilies ℕ) (q : List ℕ) (s : ℕ) : Type 0 where
  pub held : AreValuedFamilies new
  pub signs : new.signs ≡ old.signs
  pub less : (r : List ℕ) (v : ℕ) → find (slice_cmp nat_cmp) r new.values ≡ Some v
      → find (slice_cmp nat_cmp) r old.values ≡ Some v
  pub elsewhere : (r : List ℕ) → (IsProperPrefix q r → ⊥)
      → (find (slice_cmp nat_cmp) r new.values ≡ find (slice_cmp nat_cmp) r old.values)
      × (cell_of new.families r ≡ cell_of old.families r)
  pub some : (keep : List ℕ → Bool) (start : ValuedFamilies ℕ)
      → IsKeep keep start → AreValuedFamilies start
      → PrunesSome keep start old → PrunesSome keep start new
  pub gone : (keep : List ℕ → Bool) (start : ValuedFamilies ℕ)
      → IsKeep keep start → AreValuedFamilies start → PrunesSome keep start old
      → (x : ℕ) (more : List ℕ) → (s ≡ 0) ⊎ (x < s)
      → keep (q ++ x ∷ more) ≡ false → find (slice_cmp nat_cmp) (q ++ x ∷ more) new.values ≡ None

-- of the strings that go on from q, those that are not to keep their cells have lost them
abbrev pub PrunesBelow : ValuedFamilies ℕ → ValuedFamilies ℕ → List ℕ → Type 0
PrunesBelow old new q = PrunesTo old new q 0

-- the strings that are not to keep their cells have lost them
pub record Prunes (keep : List ℕ → Bool) (old new : ValuedFamilies ℕ) : Type 0 where
  pub held : AreValuedFamilies new
  pub signs : new.signs ≡ old.signs
  pub stays : (q : List ℕ) → keep q ≡ true
      → find (slice_cmp nat_cmp) q new.values ≡ find (slice_cmp nat_cmp) q old.values
  pub gone : (q : List ℕ) → keep q ≡ false → find (slice_cmp nat_cmp) q new.values ≡ None
  pub families : new.families ≡ flat_map (kept_family keep) old.families
