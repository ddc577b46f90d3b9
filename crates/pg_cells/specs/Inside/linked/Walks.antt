-- Walks from string to string by their cells, and what entering a string leaves.
use Rattle.std.specs.Prelude.{◌≡◌, ℕ, List, [], ◌∷◌, ◌++◌, take, drop, Option, None, Some}
use Rattle.std.specs.Ordering.{nat_cmp}
use Rattle.std.specs.Cmp.Lexicographic.{slice_cmp}
use Rattle.std.specs.FinMap.{find, put}
use Rattle.pg_types.specs.Placement.{Families, with_sign}
use Rattle.pg_types.specs.Inside.PlacementSteps.{enter_after, enter_by}
use Rattle.pg_types.specs.Inside.Placing.{cell_of}
use Rattle.pg_cells.specs.Inside.linked.ValuedFamilies.{ValuedFamilies}

-- where a walk stands: at the empty string, or at the string that has the cell
abbrev pub IsAt : Families → Option ℕ → List ℕ → Type 0
IsAt fs None q = q ≡ []
IsAt fs (Some cell) q = cell_of fs q ≡ Some cell

-- to enter w is to enter what follows its first k signs, which need no new cell
pub record NeedsNoCell (n : ℕ) (fs : Families) (w : List ℕ) (k : ℕ) : Type 0 where
  pub front : fs ≡ enter_by n fs (take k w)
  pub rest : enter_after n fs (take k w) (drop k w) ≡ enter_by n fs w

module _ {V : Type 0} where
  -- no string that begins with q has a value
  abbrev pub EndsBefore : List (List ℕ × V) → List ℕ → Type 0
  EndsBefore values q = (more : List ℕ) → find (slice_cmp nat_cmp) (q ++ more) values ≡ None

  -- where a cell is given, nothing changes; else the string q with sign s gets one and the value
  abbrev pub StepsBy : Option ℕ → ValuedFamilies V → ValuedFamilies V → List ℕ → ℕ → V → Type 0
  StepsBy None old new q s v = new
      ≡ record old {
        families = with_sign old.signs old.families q s;
        values = put (slice_cmp nat_cmp) (q ++ s ∷ []) v old.values;
      }
  StepsBy (Some cell) old new q s v = new ≡ old

  -- where the string q with sign s has a cell, nothing changes; else it gets one and the value
  abbrev pub Steps : ValuedFamilies V → ValuedFamilies V → List ℕ → ℕ → V → Type 0
  Steps old new q s v = StepsBy (cell_of old.families (q ++ s ∷ [])) old new q s v

  -- each string keeps its value, and only prefixes of w are new, with the blank
  pub record AddsBlanks (w : List ℕ) (blank : V) (old new : List (List ℕ × V)) : Type 0 where
    pub keeps : (q : List ℕ) (v : V) → find (slice_cmp nat_cmp) q old ≡ Some v
        → find (slice_cmp nat_cmp) q new ≡ Some v
    pub blanks : (q : List ℕ) (v : V) → find (slice_cmp nat_cmp) q old ≡ None
        → find (slice_cmp nat_cmp) q new ≡ Some v → (v ≡ blank) × (k : ℕ) × (q ≡ take k w)
