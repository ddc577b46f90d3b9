-- How the families of a trie lie in the row of cells.
use Rattle.std.specs.Prelude.{◌≡◌, ◌≢◌, ℕ, ◌+◌, ◌<◌, ◌≤◌, T, true, nat_eq, List, [], ◌∷◌, ◌++◌, filter, Option, None, Some, slice_get}
use Rattle.std.specs.List.{range_with_len}
use Rattle.std.specs.Ordering.{nat_cmp}
use Rattle.std.specs.Cmp.Lexicographic.{slice_cmp}
use Rattle.std.specs.FinMap.{find}
use Rattle.std.specs.FinMap.Entries.{is_sorted}
use Rattle.pg_types.specs.Placement.{Family, family_at}
use Rattle.pg_types.specs.Inside.PlacementSteps.{taken_count}
use Rattle.pg_types.specs.Inside.Placing.{cell_of}
use Rattle.pg_cells.specs.Inside.store.CellRows.{Row, sign_at, child_at, base_at}
use Rattle.pg_cells.specs.Inside.store.Store.{taken_in, IsRow}
use Rattle.pg_types.specs.declared.limits.TheConstants.{SIGNS_MAX}
use Rattle.pg_cells.specs.Inside.linked.ValuedFamilies.{Trie}

module _ {V : Type 0} where
  -- the signs that stand at a base, of a table of n signs
  abbrev pub signs_at_base : ℕ → Row V → ℕ → List ℕ
  signs_at_base n r base = filter (λ x. nat_eq (sign_at r (base + x)) x) (range_with_len 1 n)

  -- the parent of the family f is the cell of the sign x in the family at p, and has its base
  pub record IsParent (r : Row V) (F : List ℕ → Option Family)
      (p : List ℕ) (x : ℕ) (f : Family) : Type 0 where
    pub above : Family
    pub at : F p ≡ Some above
    pub sign : sign_at r (above.base + x) ≡ x
    pub child : child_at r (above.base + x) ≡ f.base
    pub base : 0 < f.base
    pub positive : 0 < x

  -- the families F lie in the row: their signs at their bases, no two at one base, and nothing else
  pub record AreLaidOut (n : ℕ) (r : Row V) (F : List ℕ → Option Family) : Type 0 where
    pub root : F [] ≡ Some (record { base = 0; signs = range_with_len 1 n })
    pub members : (p : List ℕ) (f : Family) → F p ≡ Some f → f.signs ≡ signs_at_base n r f.base
    pub filled : (p : List ℕ) (f : Family) → F p ≡ Some f → f.signs ≢ []
    pub parent : (p : List ℕ) (x : ℕ) (f : Family) → F (p ++ x ∷ []) ≡ Some f → IsParent r F p x f
    pub child : (p : List ℕ) (x : ℕ) (g : Family)
        → F p ≡ Some g → 0 < x → sign_at r (g.base + x) ≡ x → 0 < child_at r (g.base + x)
        → (f : Family) × (F (p ++ x ∷ []) ≡ Some f) × (f.base ≡ child_at r (g.base + x))
    pub apart : (p q : List ℕ) (f g : Family) → F p ≡ Some f
        → F q ≡ Some g → f.base ≡ g.base → p ≡ q
    pub owned : (i : ℕ) → sign_at r i ≢ 0 → (p : List ℕ)
        × (f : Family) × (F p ≡ Some f) × (i ≡ f.base + sign_at r i)
    pub small : (i : ℕ) → sign_at r i ≤ n
    pub flag : (p : List ℕ) (f : Family) → F p ≡ Some f → base_at r f.base ≡ true
    pub flagged : (b : ℕ) → base_at r b ≡ true
        → (p : List ℕ) × (f : Family) × (F p ≡ Some f) × (f.base ≡ b)

  -- the value in a cell of the row; none where no cell is given, or the row has no such cell
  abbrev pub value_in : Row V → Option ℕ → Option V
  value_in r None = None
  value_in r (Some cell) = slice_get r.values cell

  -- the families and values of the trie are what the row holds
  pub record IsTrie (n : ℕ) (r : Row V) (t : Trie V) : Type 0 where
    pub sorted : T (is_sorted (slice_cmp nat_cmp) t.families)
    pub layout : AreLaidOut n r (family_at t.families)
    pub count : taken_in r ≡ taken_count t.families
    pub ordered : T (is_sorted (slice_cmp nat_cmp) t.values)
    pub has : (q : List ℕ) → find (slice_cmp nat_cmp) q t.values ≡ value_in r (cell_of t.families q)

  -- the row is that of a store, it holds the trie, and the table has 1 to `SIGNS_MAX` signs
  pub record AreKept (n : ℕ) (r : Row V) (t : Trie V) : Type 0 where
    pub row : IsRow r
    pub trie : IsTrie n r t
    pub some : 1 ≤ n
    pub few : n ≤ SIGNS_MAX
