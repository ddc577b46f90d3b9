-- What a run changes in an engine, from pass to pass.
use Rattle.std.specs.Prelude.{◌≡◌, ℕ, ◌+◌, ◌≤◌, List, fold, Option}
use Rattle.std.specs.Option.{option_map}
use Rattle.pg_types.specs.declared.limits.TheConstants.{LENGTH_MAX, LEVEL_MAX}
use Rattle.pg_types.specs.declared.parameters.LevelParams.{LevelParams}
use Rattle.pg_types.specs.Placement.{Families, top}
use Rattle.pg_types.specs.Inside.PlacementSteps.{taken_count}
use Rattle.pg_translate.specs.Alphabets.{Alphabet}
use Rattle.pg_dict.specs.Word.{Word}
use Rattle.pg_dict.specs.Inside.SoundWords.{SignsAtMost}
use Rattle.pg_select.specs.Inside.engine.Meanings.{Meaning}
use Rattle.pg_driver.specs.declared.records.PassRecord.{PassRecord}
use Rattle.pg_select.specs.declared.pass.Pass.{Pass}
use Rattle.pg_driver.specs.Traces.{Knowledge, PassTrace, known_after, pass_trace}
use Rattle.pg_driver.specs.Inside.level.Passes.{known_at_end}
use Rattle.pg_driver.specs.Inside.records.AccountLines.{pass_line}
use Rattle.pg_driver.specs.Inside.Layouts.{after_pass}
use Rattle.pg_driver.specs.Inside.records.RunAccounts.{known_of, line_of, pass_record_layout}

-- what an engine knows, and the families of its strings, where they are told
pub record State : Type 0 where
  pub known : Knowledge
  pub families : Option Families

-- the state of an engine
abbrev pub state_of : Meaning → State
state_of m = record { known = known_of m; families = m.families }

-- the state after a pass, where these families were told before it
abbrev pub state_after : ℕ → Option Families → PassTrace → State
state_after signs families p =
    record { known = known_after p; families = option_map (λ fs. after_pass signs fs p) families }

-- the state after passes that begin with a state
abbrev pub state_at_end : ℕ → State → List PassTrace → State
state_at_end signs s ps =
    record {
      known = known_at_end s.known ps;
      families = option_map (λ fs. fold (after_pass signs) fs ps) s.families;
    }

-- the numbers of a pass are in their ranges
pub record IsPass (pass : Pass) : Type 0 where
  pub level_low : 1 ≤ pass.level
  pub level_high : pass.level ≤ LEVEL_MAX
  pub len_low : 1 ≤ pass.len
  pub len_high : pass.len ≤ LENGTH_MAX
  pub within : pass.dot ≤ pass.len

-- a pass has begun over these words
pub record HasBegun (pass : Pass) (words : List Word) (m : Meaning) : Type 0 where
  pub ranges : IsPass pass
  pub begun : m.pass ≡ pass
  pub signs : SignsAtMost m.signs words

-- the pass that is made from what an engine knows
abbrev pub made_by : Alphabet → List Word → LevelParams → Meaning → Pass → PassTrace
made_by T W params m pass = pass_trace T W params (known_of m) pass

-- a pass was done: the engine is as after it, and the record has its line and its layout
pub record DidPass (T : Alphabet) (W : List Word) (params : LevelParams)
    (pass : Pass) (old new : Meaning) (r : PassRecord) : Type 0 where
  pub state : state_of new ≡ state_after old.signs old.families (made_by T W params old pass)
  pub line : line_of r ≡ pass_line T W (made_by T W params old pass)
  pub layout : pass_record_layout r ≡ option_map (λ fs. (pass, taken_count fs, top fs)) new.families
  pub begun : new.begun ≡ old.begun + 1
