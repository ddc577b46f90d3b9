-- What a write of one cell changes of the row.
use Rattle.std.specs.Prelude.{◌≡◌, ◌≢◌, ℕ, ◌+◌, Bool, length, slice_get, Some}
use Rattle.pg_cells.specs.Inside.store.CellRows.{Row, sign_at, child_at, base_at}
use Rattle.pg_cells.specs.Inside.store.Store.{taken_in}

module _ {V : Type 0} where
  -- all cells but one, and all flags, are as before
  pub record KeepsOtherIndices (old new : Row V) (cell : ℕ) : Type 0 where
    pub signs : (j : ℕ) → j ≢ cell → sign_at new j ≡ sign_at old j
    pub children : (j : ℕ) → j ≢ cell → child_at new j ≡ child_at old j
    pub values : (j : ℕ) → j ≢ cell → slice_get new.values j ≡ slice_get old.values j
    pub bases : (b : ℕ) → base_at new b ≡ base_at old b
    pub size : length new.signs ≡ length old.signs

  -- a cell was taken, with this sign, value and child, and nothing else changed
  pub record Takes (old new : Row V) (cell sign : ℕ) (value : V) (child : ℕ) : Type 0 where
    pub elsewhere : KeepsOtherIndices old new cell
    pub sign_is : sign_at new cell ≡ sign
    pub child_is : child_at new cell ≡ child
    pub value_is : slice_get new.values cell ≡ Some value
    pub count : taken_in new ≡ taken_in old + 1

  -- a cell was given up: it has no sign and no child, and the other cells are as before
  pub record Frees (old new : Row V) (cell : ℕ) : Type 0 where
    pub elsewhere : KeepsOtherIndices old new cell
    pub sign_is : sign_at new cell ≡ 0
    pub child_is : child_at new cell ≡ 0
    pub count : taken_in new + 1 ≡ taken_in old

  -- the child of a cell was set, and nothing else changed
  pub record SetsChild (old new : Row V) (cell child : ℕ) : Type 0 where
    pub elsewhere : KeepsOtherIndices old new cell
    pub sign_is : sign_at new cell ≡ sign_at old cell
    pub child_is : child_at new cell ≡ child
    pub value_is : slice_get new.values cell ≡ slice_get old.values cell
    pub count : taken_in new ≡ taken_in old

  -- the value of a cell was set, and nothing else changed
  pub record SetsRowValue (old new : Row V) (cell : ℕ) (value : V) : Type 0 where
    pub elsewhere : KeepsOtherIndices old new cell
    pub sign_is : sign_at new cell ≡ sign_at old cell
    pub child_is : child_at new cell ≡ child_at old cell
    pub value_is : slice_get new.values cell ≡ Some value
    pub count : taken_in new ≡ taken_in old

  -- an index was marked as a base or as none, and nothing else changed
  pub record SetsBase (old new : Row V) (base : ℕ) (flag : Bool) : Type 0 where
    pub signs : (j : ℕ) → sign_at new j ≡ sign_at old j
    pub children : (j : ℕ) → child_at new j ≡ child_at old j
    pub values : (j : ℕ) → slice_get new.values j ≡ slice_get old.values j
    pub base_is : base_at new base ≡ flag
    pub bases : (b : ℕ) → b ≢ base → base_at new b ≡ base_at old b
    pub size : length new.signs ≡ length old.signs
    pub count : taken_in new ≡ taken_in old
