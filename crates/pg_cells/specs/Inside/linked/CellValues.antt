-- What a base and a cell tell of strings, and the writing of a string's value.
use Rattle.std.specs.Prelude.{◌≡◌, ℕ, List, [], ◌∷◌, ◌++◌, Option, None, Some, ◌==◌, if◌then◌else◌}
use Rattle.std.specs.Ordering.{nat_cmp}
use Rattle.std.specs.Cmp.Lexicographic.{slice_cmp}
use Rattle.std.specs.FinMap.{find, put}
use Rattle.pg_types.specs.Placement.{Families, base_of}
use Rattle.pg_types.specs.Inside.Placing.{cell_of}
use Rattle.pg_cells.specs.Inside.linked.ValuedFamilies.{ValuedFamilies}
use Rattle.pg_cells.specs.Inside.linked.AreValuedFamilies.{AreValuedFamilies}

-- some family has the base
abbrev pub IsBase : Families → ℕ → Type 0
IsBase fs base = (p : List ℕ) × (base_of fs p ≡ Some base)

-- some string has the cell
abbrev pub IsTaken : Families → ℕ → Type 0
IsTaken fs cell = (q : List ℕ) × (cell_of fs q ≡ Some cell)

-- the cell is that of the sign in the family with the base; none where the family lacks the sign
abbrev pub FindsCell : Families → ℕ → ℕ → Option ℕ → Type 0
FindsCell fs base s cell = (p : List ℕ) → base_of fs p ≡ Some base
    → cell ≡ cell_of fs (p ++ s ∷ [])

-- the family below the string has the base; 0 where there is none
abbrev pub HasBase : Families → List ℕ → ℕ → Type 0
HasBase fs q base = base_of fs q ≡ (if base == 0 then None else Some base)

-- the family below the cell's string has the base; 0 where there is none
abbrev pub GivesBase : Families → ℕ → ℕ → Type 0
GivesBase fs cell base = (q : List ℕ) → cell_of fs q ≡ Some cell → HasBase fs q base

module _ {V : Type 0} where
  -- the string that has the cell has the value
  abbrev pub HasValue : ValuedFamilies V → ℕ → V → Type 0
  HasValue h cell v = (q : List ℕ) → cell_of h.families q ≡ Some cell
      → find (slice_cmp nat_cmp) q h.values ≡ Some v

  -- the string that has the cell gets the value
  pub record SetsValue (old new : ValuedFamilies V) (cell : ℕ) (v : V) : Type 0 where
    pub held : (q : List ℕ) → cell_of old.families q ≡ Some cell
        → new ≡ record old { values = put (slice_cmp nat_cmp) q v old.values }
    pub kept : AreValuedFamilies new
