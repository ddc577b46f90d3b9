-- What removing a sign from a family needs, and what it leaves.
use Rattle.std.specs.Prelude.{◌≡◌, ◌≢◌, ℕ, List, [], ◌∷◌, ◌++◌, Some, None}
use Rattle.pg_types.specs.Placement.{Families, base_of}
use Rattle.pg_types.specs.Inside.Placing.{cell_of, without_sign}
use Rattle.pg_cells.specs.Inside.linked.ValuedFamilies.{ValuedFamilies, without_key}
use Rattle.pg_cells.specs.Inside.linked.AreValuedFamilies.{AreValuedFamilies}

-- a string has the cell `parent`, and the sign s is below it, with no family below that
pub record CanRemoveSign (fs : Families) (parent s : ℕ) : Type 0 where
  pub prefix : List ℕ
  pub cell : ℕ
  pub at : cell_of fs prefix ≡ Some parent
  pub there : cell_of fs (prefix ++ s ∷ []) ≡ Some cell
  pub childless : base_of fs (prefix ++ s ∷ []) ≡ None

-- the sign s is removed from the family below the string that has the cell `parent`
pub record RemovesSign {V : Type 0} (old new : ValuedFamilies V) (parent s : ℕ) : Type 0 where
  pub held : (q : List ℕ) → cell_of old.families q ≡ Some parent → new
      ≡ record old {
        families = without_sign old.families q s;
        values = without_key (q ++ s ∷ []) old.values;
      }
  -- every other string keeps its cell
  pub cells : (q : List ℕ) → cell_of old.families q ≡ Some parent → (p : List ℕ)
      → p ≢ q ++ s ∷ [] → cell_of new.families p ≡ cell_of old.families p
  pub kept : AreValuedFamilies new
