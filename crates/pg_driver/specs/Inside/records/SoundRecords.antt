-- What every record of a run keeps, and what a run is seen as.
use Rattle.std.specs.Prelude.{ℕ, ◌+◌, ◌<◌, ◌≤◌, nat_lt, if◌then◌else◌, List, [], ◌∷◌, ◌++◌, Option}
use Rattle.pg_types.specs.Inside.Limits.{sums_limit}
use Rattle.pg_types.specs.declared.marks.Layout.{Layout}
use Rattle.pg_types.specs.declared.marks.Totals.{Totals}
use Rattle.pg_patterns.specs.Values.{Patterns}
use Rattle.pg_driver.specs.declared.records.PassRecord.{PassRecord}
use Rattle.pg_driver.specs.declared.records.LevelRecord.{LevelRecord}
use Rattle.pg_select.specs.Inside.SumSteps.{sum_of}

-- the sums of totals together are below the limit of sums
abbrev pub IsSmall : Totals → Type 0
IsSmall t = sum_of t < sums_limit

-- the chosen and the hopeless of a pass are no more than its candidates, and its totals are small
pub record IsSoundPass (r : PassRecord) : Type 0 where
  pub within : r.chosen + r.hopeless ≤ r.candidates
  pub before : IsSmall r.before

-- the totals after a level are small
pub record IsSoundLevel (r : LevelRecord) : Type 0 where
  pub after : IsSmall r.after

-- the records of a run so far, how many it chose in this level, and how many passes were begun
pub record RunRecords : Type 0 where
  pub passes : List PassRecord
  pub levels : List LevelRecord
  pub chosen : ℕ
  pub begun : ℕ

-- the records with a pass more, which has a record of its own where it has a candidate
abbrev pub with_pass : RunRecords → PassRecord → RunRecords
with_pass r pass = record r {
  passes = if nat_lt 0 pass.candidates then r.passes ++ pass ∷ []
      else r.passes;
  chosen = r.chosen + pass.chosen;
  begun = r.begun + 1;
}

-- the records at the end of a level: they have one of it, and nothing is chosen in the next
abbrev pub with_level : RunRecords → ℕ → Totals → Option Layout → RunRecords
with_level r level after layout =
    record r {
      levels = r.levels
          ++ record { level = level; chosen = r.chosen; after = after; layout = layout } ∷ [];
      chosen = 0;
    }

-- a run that is done: patterns, records, totals, the layout at its start, and the passes begun
pub record CompletedRun : Type 0 where
  pub patterns : Patterns
  pub passes : List PassRecord
  pub levels : List LevelRecord
  pub totals : Totals
  pub first_layout : Option Layout
  pub begun : ℕ
