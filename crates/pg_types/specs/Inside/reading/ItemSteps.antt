-- Items that are taken from a parameters file: what is read of them is read of those behind them.
use Rattle.std.specs.Prelude.{◌≡◌, ℕ, ◌==◌, ◌||◌, Bool, List, Result, Ok, Err}
use Rattle.pg_types.specs.declared.parameters.LevelParams.{LevelParams}
use Rattle.pg_types.specs.declared.items.Items.{Items}
use Rattle.pg_types.specs.declared.refusals.Refusal.{Refusal}
use Rattle.pg_types.specs.declared.refusals.ReadingError.{ReadingError}
use Rattle.pg_types.specs.Parameters.{Parameters, Reading, items, number_then, level_then, levels_then, nothing_then}
use Rattle.pg_types.specs.Inside.reading.Answers.{Fails}

-- blank, TAB, CR and LF stand between items
abbrev pub is_separator : ℕ → Bool
is_separator b = b == 32 || b == 9 || b == 13 || b == 10

-- what a reading gives of the items that are left
abbrev pub read_by : Reading → Items → Result Parameters Refusal
read_by reading i = reading i.item_number (items i.rest.now)

-- a number from the least to the greatest was taken
abbrev pub TakesNumber : ℕ → ℕ → Items → Items → ℕ → Type 0
TakesNumber least greatest old new n = (next : ℕ → Reading)
    → read_by (number_then least greatest next) old ≡ read_by (next n) new

-- in place of a number from the least to the greatest, there is this refusal
abbrev pub RefusesNumber : ℕ → ℕ → Items → Refusal → Type 0
RefusesNumber least greatest old refusal = (next : ℕ → Reading)
    → read_by (number_then least greatest next) old ≡ Err refusal

-- a level was taken
abbrev pub TakesLevel : Items → Items → LevelParams → Type 0
TakesLevel old new level =
    (next : LevelParams → Reading) → read_by (level_then next) old ≡ read_by (next level) new

-- in place of a level, there is this refusal
abbrev pub RefusesLevel : Items → Refusal → Type 0
RefusesLevel old refusal =
    (next : LevelParams → Reading) → read_by (level_then next) old ≡ Err refusal

-- so many levels were taken
abbrev pub TakesLevels : ℕ → Items → Items → List LevelParams → Type 0
TakesLevels count old new levels = (next : List LevelParams → Reading)
    → read_by (levels_then count next) old ≡ read_by (next levels) new

-- in place of so many levels, there is this error
abbrev pub FailsLevels : ℕ → Items → ReadingError → Type 0
FailsLevels count old error =
    (next : List LevelParams → Reading) → Fails error (read_by (levels_then count next) old)

-- nothing is left, or one answer
abbrev pub HasNothing : Items → Type 0
HasNothing i = (p : Parameters) → read_by (nothing_then p) i ≡ Ok p

-- too much is left, with this refusal
abbrev pub HasSurplus : Items → Refusal → Type 0
HasSurplus i refusal = (p : Parameters) → read_by (nothing_then p) i ≡ Err refusal
