-- What a run that is done tells, and what it is to tell by the trace from an engine's patterns.
use Rattle.std.specs.Prelude.{ℕ, fold, ◌≡◌, List, map, All, Option, None, Some}
use Rattle.pg_types.specs.Placement.{Families}
use Rattle.pg_driver.specs.Traces.{Trace, Knowledge, trace, final_patterns}
use Rattle.pg_driver.specs.Inside.Layouts.{after_level}
use Rattle.pg_driver.specs.Inside.records.CellsAccounts.{CellsAccount, cells_account}
use Rattle.std.specs.Option.{option_map}
use Rattle.pg_types.specs.declared.marks.Layout.{Layout}
use Rattle.pg_types.specs.Parameters.{Parameters}
use Rattle.pg_translate.specs.Alphabets.{Alphabet}
use Rattle.pg_dict.specs.Word.{Word}
use Rattle.pg_patterns.specs.Values.{Patterns}
use Rattle.pg_select.specs.Inside.engine.Meanings.{Meaning}
use Rattle.pg_select.specs.declared.pass.Pass.{Pass}
use Rattle.pg_driver.specs.declared.records.PassRecord.{PassRecord}
use Rattle.pg_driver.specs.declared.records.LevelRecord.{LevelRecord}
use Rattle.pg_driver.specs.Inside.records.SoundRecords.{CompletedRun}
use Rattle.pg_driver.specs.Accounts.{begun_count}
use Rattle.pg_driver.specs.Inside.records.AccountLines.{Account, PassLine, LevelLine, account}

-- what an engine knows
abbrev pub known_of : Meaning → Knowledge
known_of m = record { patterns = m.patterns; hopeless = m.hopeless }

-- the run from the patterns of an engine: its trace
abbrev pub run_from : Alphabet → List Word → Parameters → Meaning → Trace
run_from t words parameters m = trace t words parameters m.patterns

-- the patterns at the end of the run from an engine's patterns
abbrev pub patterns_from : Alphabet → List Word → Parameters → Meaning → Patterns
patterns_from t words parameters m = final_patterns m.patterns (run_from t words parameters m)

-- what is told of the run from an engine's patterns
abbrev pub account_from : Alphabet → List Word → Parameters → Meaning → Account
account_from t words parameters m = account t words m.patterns
    (run_from t words parameters m)

-- how many passes of the run from an engine's patterns are begun
abbrev pub begun_from : Alphabet → List Word → Parameters → Meaning → ℕ
begun_from t words parameters m = begun_count (run_from t words parameters m)

-- the families at the end of the run from an engine's, where they are told
abbrev pub families_from : Alphabet → List Word → Parameters → Meaning → Option Families
families_from t words parameters m =
    option_map (λ fs. fold (after_level m.signs) fs (run_from t words parameters m)) m.families

-- what is told of the cells of the run from an engine's families, where they are told
abbrev pub cells_from : Alphabet → List Word → Parameters → Meaning → Option CellsAccount
cells_from t words parameters m =
    option_map (λ fs. cells_account m.signs fs m.patterns
    (run_from t words parameters m)) m.families

-- the line of a record of a pass
abbrev pub line_of : PassRecord → PassLine
line_of r = record {
  pass = record { level = r.level; len = r.len; dot = r.dot };
  before = r.before;
  candidates = r.candidates;
  chosen = r.chosen;
  hopeless = r.hopeless;
  good = r.good;
  bad = r.bad;
}

-- the line of a record of a level
abbrev pub level_line_of : LevelRecord → LevelLine
level_line_of r = record { level = r.level; chosen = r.chosen; after = r.after }

-- what a run tells in its records
abbrev pub account_of : CompletedRun → Account
account_of r = record {
  passes = map line_of r.passes;
  levels = map level_line_of r.levels;
  totals = r.totals;
}

-- what a record of a pass tells of the cells, where it has a layout; nothing is said of the tails
abbrev pub pass_record_layout : PassRecord → Option (Pass × ℕ × ℕ)
pass_record_layout r = option_map
    (λ l. (record { level = r.level; len = r.len; dot = r.dot }, l.taken, l.top)) r.layout

-- what a record of a level tells of the cells, where it has a layout
abbrev pub level_record_layout : LevelRecord → Option (ℕ × Layout)
level_record_layout r = option_map (λ l. (r.level, l)) r.layout

-- the layouts that a run tells are those of the account, and none where there is no account
abbrev pub TellsCells : Option CellsAccount → CompletedRun → Type 0
TellsCells (Some a) r = (r.first_layout ≡ Some a.start)
    × (map pass_record_layout r.passes ≡ map Some a.passes)
    × (map level_record_layout r.levels ≡ map Some a.levels)
TellsCells None r = (r.first_layout ≡ None) × All (λ p. p.layout ≡ None) r.passes
    × All (λ l. l.layout ≡ None) r.levels
