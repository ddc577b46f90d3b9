-- What the reading of a word leaves in the columns.
use Rattle.std.specs.Prelude.{ℕ, ◌-◌, List, Result}
use Rattle.pg_types.specs.declared.limits.TheConstants.{WORD_LETTERS_MAX}
use Rattle.pg_types.specs.declared.marks.Mark.TheVariants.{Nothing}
use Rattle.pg_types.specs.declared.marks.Mark.{Mark}
use Rattle.pg_types.specs.declared.refusals.Refusal.{Refusal}
use Rattle.pg_types.specs.ValuesOrRefusals.{unless}
use Rattle.pg_translate.specs.Alphabets.{Alphabet}
use Rattle.pg_translate.specs.Inside.items.Cuts.{tokens_of}
use Rattle.pg_translate.specs.Inside.items.Rests.{cut_rest}
use Rattle.pg_translate.specs.Inside.items.Refusing.{refusal_with_room}
use Rattle.pg_translate.specs.declared.items.Place.TheVariants.{Dictionary}
use Rattle.pg_dict.specs.declared.entries.letters.WordReading.{WordReading}
use Rattle.pg_dict.specs.declared.entries.line.Line.{Line}
use Rattle.pg_dict.specs.Inside.Lines.PositionedSigns.{Columns, with_signs}
use Rattle.pg_dict.specs.Inside.Lines.RunningWords.{signs_behind}

-- the columns after the rest of a word is read on from where its reading stands
abbrev pub columns_after : Alphabet → ℕ → ℕ → ℕ → Mark
    → ℕ → ℕ → Columns → List ℕ → Result Columns Refusal
columns_after t weight line size mark number room done rest =
    let c = cut_rest t Dictionary size rest in
    unless (refusal_with_room Dictionary line room c)
    (with_signs done (signs_behind weight mark number (tokens_of c)))

-- the columns after a line is read on from where its reading stands in a word
abbrev pub columns_from : Line → WordReading → Columns → Result Columns Refusal
columns_from l at now =
    columns_after l.table.now l.weight l.number l.size at.position.mark at.position.weight at.room
    now at.rest.now

-- the columns after the rest of a line is read, from right behind the first letter of its word
abbrev pub columns_behind : Line → List ℕ → Columns → Result Columns Refusal
columns_behind l rest now = columns_after l.table.now l.weight l.number l.size Nothing l.weight
    (WORD_LETTERS_MAX - 1) now rest
