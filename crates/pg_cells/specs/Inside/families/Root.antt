-- The root of a table.
use Rattle.std.specs.Prelude.{◌≡◌, ℕ, ◌+◌, ◌<◌, ◌≤◌, false, [], ◌∷◌, map, slice_get, Some}
use Rattle.std.specs.List.{range_with_len}
use Rattle.pg_types.specs.Placement.{root}
use Rattle.pg_cells.specs.Inside.store.CellRows.{Row, sign_at, child_at, base_at}
use Rattle.pg_cells.specs.Inside.store.Store.{taken_in}
use Rattle.pg_cells.specs.Inside.linked.ValuedFamilies.{ValuedFamilies}
use Rattle.pg_cells.specs.Inside.linked.AreValuedFamilies.{AreValuedFamilies}

-- the root family alone, with the blank as each value
abbrev pub root_alone : {V : Type 0} → ℕ → V → ValuedFamilies V
root_alone n blank = record {
  signs = n;
  families = root n;
  values = map (λ x. (x ∷ [], blank)) (range_with_len 1 n);
}

module _ {V : Type 0} where
  -- these are the root family alone, with the blank as each value
  pub record IsRootAlone (n : ℕ) (blank : V) (h : ValuedFamilies V) : Type 0 where
    pub held : h ≡ root_alone n blank
    pub kept : AreValuedFamilies h

  -- the signs from 1 on and below k stand in their own cells, and nothing else is taken
  pub record IsRootTo (k : ℕ) (blank : V) (r : Row V) : Type 0 where
    pub stand : (i : ℕ) → 0 < i → i < k → sign_at r i ≡ i
    pub free : (i : ℕ) → k ≤ i → sign_at r i ≡ 0
    pub zero_free : sign_at r 0 ≡ 0
    pub children : (i : ℕ) → child_at r i ≡ 0
    pub values : (i : ℕ) → 0 < i → i < k → slice_get r.values i ≡ Some blank
    pub bases : (b : ℕ) → base_at r b ≡ false
    pub count : taken_in r + 1 ≡ k
