-- Bounds by sign below which no base is free.
use Rattle.std.specs.Prelude.{◌≡◌, ◌≢◌, ℕ, ◌+◌, ◌<◌, false, List, get_or}
use Rattle.pg_cells.specs.Inside.store.CellRows.{Row, sign_at, base_at}

-- the base is below the bound of the sign and below each base that was given up, and the sign's
-- cell at the base is below each cell that was given up
pub record IsBelowBounds (lows : List ℕ) (freed dropped sign base : ℕ) : Type 0 where
  pub under_low : base < get_or lows sign 0
  pub under_base : base < dropped
  pub under_cell : base + sign < freed

-- the base is that of a family, or the sign's cell at the base is taken
abbrev pub NoneFree : {V : Type 0} → Row V → ℕ → ℕ → Type 0
NoneFree r sign base = base_at r base ≡ false → sign_at r (base + sign) ≢ 0

-- below the bound of a sign no base is free together with the sign's cell there, unless the base or
-- the cell was given up since
abbrev pub AreBounds : {V : Type 0} → Row V → List ℕ → ℕ → ℕ → Type 0
AreBounds r lows freed dropped = (sign base : ℕ) → 0 < base
    → IsBelowBounds lows freed dropped sign base → NoneFree r sign base
