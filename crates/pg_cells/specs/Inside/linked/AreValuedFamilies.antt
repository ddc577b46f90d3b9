-- What is always true of the families and values of the cells, in terms of strings.
use Rattle.std.specs.Prelude.{◌≡◌, ℕ, ◌≤◌, T, List, [], ◌∷◌, ◌++◌, filter, None, Some}
use Rattle.std.specs.List.{range_with_len}
use Rattle.std.specs.Option.{is_some}
use Rattle.std.specs.Ordering.{nat_cmp}
use Rattle.std.specs.Cmp.Lexicographic.{slice_cmp}
use Rattle.std.specs.FinMap.{find}
use Rattle.std.specs.FinMap.Entries.{is_sorted}
use Rattle.pg_types.specs.Placement.{Family, family_at, base_of}
use Rattle.pg_types.specs.Inside.Placing.{cell_of}
use Rattle.pg_types.specs.Inside.Signs.{IsTableSign}
use Rattle.pg_cells.specs.Inside.linked.ValuedFamilies.{ValuedFamilies}

-- what is always true of the families and the values of the cells
pub record AreValuedFamilies {V : Type 0} (h : ValuedFamilies V) : Type 0 where
  -- the families and the values stand in the order of their strings
  pub sorted : T (is_sorted (slice_cmp nat_cmp) h.families)
  pub ordered : T (is_sorted (slice_cmp nat_cmp) h.values)
  -- the strings with a cell are those with a value
  pub valued : (q : List ℕ) (cell : ℕ) → cell_of h.families q ≡ Some cell
      → (v : V) × (find (slice_cmp nat_cmp) q h.values ≡ Some v)
  pub celled : (q : List ℕ) (v : V) → find (slice_cmp nat_cmp) q h.values ≡ Some v
      → (cell : ℕ) × (cell_of h.families q ≡ Some cell)
  -- the signs of such a string are those of the table
  pub signs : (p : List ℕ) (x cell : ℕ) → cell_of h.families (p ++ x ∷ []) ≡ Some cell
      → IsTableSign h.signs x
  -- no two strings have one cell
  pub apart : (q p : List ℕ) (cell : ℕ) → cell_of h.families q ≡ Some cell
      → cell_of h.families p ≡ Some cell → q ≡ p
  -- the root has base 0, and each sign alone has its own cell
  pub root : base_of h.families [] ≡ Some 0
  pub alone : (x : ℕ) → 1 ≤ x → x ≤ h.signs → cell_of h.families (x ∷ []) ≡ Some x
  -- a string that has a family below it has a cell, unless it is empty; and the family has a sign
  pub based : (p : List ℕ) (x base : ℕ) → base_of h.families (p ++ x ∷ []) ≡ Some base
      → (cell : ℕ) × (cell_of h.families (p ++ x ∷ []) ≡ Some cell)
  pub filled : (p : List ℕ) (base : ℕ) → base_of h.families p ≡ Some base
      → (x : ℕ) × (cell : ℕ) × (cell_of h.families (p ++ x ∷ []) ≡ Some cell)
  -- where a string has no cell, no longer one has
  pub none_longer : (p : List ℕ) (x : ℕ) (more : List ℕ)
      → cell_of h.families (p ++ x ∷ []) ≡ None → cell_of h.families ((p ++ x ∷ []) ++ more) ≡ None
  -- no two families have one base
  pub bases : (p q : List ℕ) (base : ℕ) → base_of h.families p ≡ Some base
      → base_of h.families q ≡ Some base → p ≡ q
  -- the signs of a family are, in rising order, those that have a cell below its string
  pub members : (p : List ℕ) (f : Family) → family_at h.families p ≡ Some f
      → f.signs ≡ filter (λ x. is_some (cell_of h.families (p ++ x ∷ [])))
      (range_with_len 1 h.signs)
