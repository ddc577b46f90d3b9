-- What adding a sign to a family needs, and what it leaves.
use Rattle.std.specs.Prelude.{◌≡◌, ◌≢◌, ℕ, ◌≤◌, false, List, [], ◌∷◌, ◌++◌, Some, None, Result, IfOk, OnOk, OnErr}
use Rattle.std.specs.Ordering.{nat_cmp}
use Rattle.std.specs.Cmp.Lexicographic.{slice_cmp}
use Rattle.std.specs.FinMap.{put}
use Rattle.pg_types.specs.Placement.{Families}
use Rattle.pg_types.specs.Inside.PlacementSteps.{with_new_sign}
use Rattle.pg_types.specs.Inside.Placing.{cell_of, joins_at}
use Rattle.pg_cells.specs.Inside.linked.ValuedFamilies.{Trie, ValuedFamilies}
use Rattle.pg_cells.specs.Inside.linked.AreValuedFamilies.{AreValuedFamilies}
use Rattle.pg_cells.specs.Inside.store.CellRows.{Row}
use Rattle.pg_cells.specs.Inside.families.Layouts.{IsTrie}
use Rattle.pg_cells.specs.Inside.linked.Members.{ArePassing, has_sign}

-- a string has the cell `parent`, and s is a sign of the table that can be added below it
pub record CanTakeSign (signs : ℕ) (fs : Families) (parent s : ℕ) : Type 0 where
  pub prefix : List ℕ
  pub at : cell_of fs prefix ≡ Some parent
  pub lacks : cell_of fs (prefix ++ s ∷ []) ≡ None
  pub low : 1 ≤ s
  pub high : s ≤ signs

module _ {V E : Type 0} where
  -- s is added below the string that has the cell `parent`, with a value; after an error nothing is
  pub record AddsSign (old new : ValuedFamilies V) (parent s : ℕ) (v : V)
      (result : Result ℕ E) : Type 0 where
    -- the families are placed by their rule, and the longer string has the value
    pub held : (q : List ℕ) → cell_of old.families q ≡ Some parent → OnOk result (new
        ≡ record old {
          families = with_new_sign old.signs old.families q s;
          values = put (slice_cmp nat_cmp) (q ++ s ∷ []) v old.values;
        })
    -- the answer is the cell of the longer string
    pub cell : (q : List ℕ) → cell_of old.families q ≡ Some parent
        → IfOk result (λ cell. cell_of new.families (q ++ s ∷ []) ≡ Some cell)
    -- each string outside of the family keeps its cell
    pub cells : (q : List ℕ) → cell_of old.families q ≡ Some parent
        → OnOk result ((p : List ℕ) → ((x : ℕ) → p ≢ q ++ x ∷ [])
        → cell_of new.families p ≡ cell_of old.families p)
    pub kept : OnOk result (AreValuedFamilies new)
    pub err : OnErr result (new ≡ old)

module _ {V : Type 0} where
  -- s can join the family below p: the family lacks s, p has the cell `parent`, and where the
  -- family has to move, its signs are `members`
  pub record CanAdd (n : ℕ) (r : Row V) (t : Trie V) (p : List ℕ)
      (parent s : ℕ) (members : List ℕ) : Type 0 where
    pub trie : IsTrie n r t
    pub at : cell_of t.families p ≡ Some parent
    pub lacks : cell_of t.families (p ++ s ∷ []) ≡ None
    pub are : joins_at t.families p s ≡ false → ArePassing (has_sign t.families p) members

  -- the trie with the sign added below the string, and the value of the longer string
  abbrev pub with_sign_below : ℕ → Trie V → List ℕ → ℕ → V → Trie V
  with_sign_below n t p s v = record {
    families = with_new_sign n t.families p s;
    values = put (slice_cmp nat_cmp) (p ++ s ∷ []) v t.values;
  }
