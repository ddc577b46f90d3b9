-- The run of a selection: what it tells, and what its engine has before it and after it.
use Rattle.std.specs.Prelude.{◌≡◌}
use Rattle.pg_patterns.specs.Inside.PatternMaps.{SignsUpTo}
use Rattle.pg_select.specs.Inside.engine.Meanings.{Meaning, new_engine}
use Rattle.pg_driver.specs.Inside.records.RunAccounts.{account_of}
use Rattle.pg_driver.specs.Inside.records.SoundRecords.{CompletedRun}
use Rattle.pg_top.specs.Selection.{selected_patterns}
use Rattle.pg_top.specs.Inside.selection.SelectionAccounts.{selected_account, passes_begun}
use Rattle.pg_top.specs.Inside.selection.SelectionSigns.{greatest_sign_of}
use Rattle.pg_top.specs.declared.selection.Inputs.{Inputs}

-- the engine was just made with the starting patterns of the inputs
abbrev pub IsNew : Inputs → Meaning → Type 0
IsNew i m = m ≡ new_engine (greatest_sign_of i) i.start m.families

-- a run tells of the selection: its patterns, what is told of it, and how many passes were begun
pub record TellsSelection (i : Inputs) (run : CompletedRun) : Type 0 where
  pub patterns : run.patterns ≡ selected_patterns i
  pub signs : SignsUpTo (greatest_sign_of i) run.patterns
  pub account : account_of run ≡ selected_account i
  pub begun : run.begun ≡ passes_begun i

-- an engine has the selected patterns, and the signs of the inputs
pub record HasSelected (i : Inputs) (m : Meaning) : Type 0 where
  pub signs : m.signs ≡ greatest_sign_of i
  pub patterns : m.patterns ≡ selected_patterns i
