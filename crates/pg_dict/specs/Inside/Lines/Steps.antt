-- The steps of the reading of a word.
use Rattle.std.specs.Prelude.{◌≡◌, ◌+◌, ◌<◌, ◌≤◌, ℕ, length, Option, None, Some, Result, Ok, Err}
use Rattle.pg_types.specs.declared.refusals.ReadingError.{ReadingError}
use Rattle.pg_types.specs.Inside.reading.Answers.{Fails}
use Rattle.pg_dict.specs.declared.entries.line.Line.{Line}
use Rattle.pg_dict.specs.declared.entries.letters.WordReading.{WordReading}
use Rattle.pg_dict.specs.Inside.Lines.PositionedSigns.{Columns}
use Rattle.pg_dict.specs.Inside.Lines.ReadColumns.{columns_from}

-- after an item the rest leads to the same columns and is shorter, or the word is done or refused
abbrev pub IsStep : Line → WordReading → Columns → Columns
    → Result (Option WordReading) ReadingError → Type 0
IsStep l at old new (Ok (Some next)) = (columns_from l next new ≡ columns_from l at old)
    × (length next.rest.now < length at.rest.now)
IsStep l at old new (Ok None) = columns_from l at old ≡ Ok new
IsStep l at old new (Err e) = Fails e (columns_from l at old)

-- an item adds at most one sign, and takes a letter and a byte for it; the word's end adds one sign
abbrev pub AddsSigns : WordReading → ℕ → ℕ → Result (Option WordReading) ReadingError → Type 0
AddsSigns at old new (Ok (Some next)) = (new + next.room ≡ old + at.room)
    × (new + length next.rest.now ≤ old + length at.rest.now)
AddsSigns at old new (Ok None) = new ≡ old + 1
AddsSigns at old new (Err e) = Unit {0}
