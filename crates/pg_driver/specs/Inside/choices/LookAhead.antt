-- The candidates that were looked at before their turn.
use Rattle.std.specs.Prelude.{◌≡◌, ℕ, ◌+◌, ◌<◌, ◌≤◌, true, List, length, slice_get, Some}
use Rattle.std.specs.List.{list_all}
use Rattle.pg_types.specs.Inside.Signs.{is_sign}
use Rattle.pg_types.specs.Inside.counting.NumberedWindows.{Windows, HasNumber}
use Rattle.pg_select.specs.declared.choice.Choice.{Choice}
use Rattle.pg_driver.specs.declared.choices.look_ahead.SeenCandidate.{SeenCandidate}

-- a candidate is the window with the number, and has the fate of that number
pub record IsReadAhead (fates : List Choice) (ws : Windows) (n : ℕ) (c : SeenCandidate)
    : Type 0 where
  pub fate : slice_get fates n ≡ Some c.fate
  pub window : HasNumber ws c.window n

-- each of the numbers is that of a window
abbrev pub AreThere : Windows → List ℕ → Type 0
AreThere ws numbers = (k n : ℕ) → slice_get numbers k ≡ Some n → n < length ws

-- each window of these numbers fits in a cursor: it has signs
abbrev pub FitCursors : Windows → List ℕ → Type 0
FitCursors ws numbers = (k n : ℕ) (u : List ℕ) → slice_get numbers k ≡ Some n → HasNumber ws u n
    → list_all is_sign u ≡ true

-- the candidates are those of the order from an index on
pub record AreSeen (fates : List Choice) (ws : Windows) (order : List ℕ) (from : ℕ)
    (seen : List SeenCandidate) : Type 0 where
  pub within : from + length seen ≤ length order
  pub each : (i n : ℕ) (c : SeenCandidate) → slice_get order (from + i) ≡ Some n
      → slice_get seen i ≡ Some c → IsReadAhead fates ws n c
