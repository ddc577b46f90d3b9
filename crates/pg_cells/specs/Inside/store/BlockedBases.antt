-- Bases that cannot take a family, since another family has the base or one of the cells.
use Rattle.std.specs.Prelude.{◌≡◌, ◌≢◌, ℕ, ◌+◌, ◌<◌, ◌≤◌, ◌⊎◌, true}
use Rattle.pg_cells.specs.Inside.store.CellRows.{Row, sign_at, base_at}

module _ {V : Type 0} where
  -- a family cannot move to k: k is a base already, or a cell of another family is in the way
  abbrev pub IsBlocked : Row V → ℕ → ℕ → Type 0
  IsBlocked r placed k =
      (base_at r k ≡ true) ⊎
      ((x : ℕ) × (0 < x) × (sign_at r (placed + x) ≡ x)
      × (sign_at r (k + x) ≢ 0) × (sign_at r (k + x) + placed ≢ k + x))

  -- no base from `from` on and below `placed` can take the family that stands there
  abbrev pub AreBlocked : Row V → ℕ → ℕ → Type 0
  AreBlocked r placed from = (k : ℕ) → from ≤ k → k < placed → IsBlocked r placed k
