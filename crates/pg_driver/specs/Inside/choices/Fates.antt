-- What becomes of a candidate, as the choice says it.
use Rattle.std.specs.Prelude.{Bool, true, false, List, filter}
use Rattle.pg_types.specs.declared.parameters.LevelParams.{LevelParams}
use Rattle.pg_select.specs.declared.choice.Choice.{Choice}
use Rattle.pg_select.specs.declared.choice.Choice.TheVariants.{Hopeless, Chosen}
use Rattle.pg_select.specs.CountedPositions.{Candidate}
use Rattle.pg_select.specs.Inside.Choices.{choice}
use Rattle.pg_driver.specs.Traces.{is_chosen, is_hopeless, is_entered}

-- what becomes of a candidate: it is chosen, or hopeless, or left
abbrev pub choice_of : LevelParams → Candidate → Choice
choice_of params c = choice params c.good c.bad

-- whether a candidate with this choice is chosen
abbrev pub chooses : Choice → Bool
chooses Chosen = true
chooses other = false

-- whether a candidate with this choice is hopeless
abbrev pub gives_up : Choice → Bool
gives_up Hopeless = true
gives_up other = false

-- the candidates that are chosen, in their order
abbrev pub chosen_of : LevelParams → List Candidate → List Candidate
chosen_of params cs = filter (is_chosen params) cs

-- the candidates that are hopeless, in their order
abbrev pub hopeless_of : LevelParams → List Candidate → List Candidate
hopeless_of params cs = filter (is_hopeless params) cs

-- the candidates that are chosen or hopeless, in their order
abbrev pub entered_of : LevelParams → List Candidate → List Candidate
entered_of params cs = filter (is_entered params) cs
