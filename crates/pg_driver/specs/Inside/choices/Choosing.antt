-- What the choice among the candidates of a pass makes of an engine, and what it counts.
use Rattle.std.specs.Prelude.{◌≡◌, ℕ, ◌+◌, List, length, sum_by}
use Rattle.pg_types.specs.declared.parameters.LevelParams.{LevelParams}
use Rattle.pg_select.specs.Inside.engine.Meanings.{Meaning}
use Rattle.pg_select.specs.CountedPositions.{Candidate}
use Rattle.pg_driver.specs.declared.choices.Choices.{Choices}
use Rattle.pg_driver.specs.Traces.{PassTrace}
use Rattle.pg_driver.specs.Inside.choices.Fates.{chosen_of, hopeless_of}
use Rattle.pg_driver.specs.Inside.level.States.{state_of, state_after}
use Rattle.pg_driver.specs.Inside.records.RunAccounts.{known_of}

-- an entry of the counts as a candidate
abbrev pub candidate_of : List ℕ × (ℕ × ℕ) → Candidate
candidate_of e = record { window = e.0; good = e.1.0; bad = e.1.1 }

-- no candidate
abbrev pub no_choices : Choices
no_choices = record { candidates = 0; chosen = 0; hopeless = 0; good = 0; bad = 0 }

-- the numbers and sums after more candidates
abbrev pub with_candidates : LevelParams → Choices → List Candidate → Choices
with_candidates params n cs = record {
  candidates = n.candidates + length cs;
  chosen = n.chosen + length (chosen_of params cs);
  hopeless = n.hopeless + length (hopeless_of params cs);
  good = n.good + sum_by (λ c. c.good) (chosen_of params cs);
  bad = n.bad + sum_by (λ c. c.bad) (chosen_of params cs);
}

-- the pass that an engine is in, with these candidates
abbrev pub engine_pass : LevelParams → Meaning → List Candidate → PassTrace
engine_pass params m cs =
    record { pass = m.pass; params = params; before = known_of m; candidates = cs }

-- these candidates of the pass that the engine is in were chosen, made hopeless or left
pub record HasChosen (params : LevelParams) (cs : List Candidate) (old new : Meaning) : Type 0 where
  pub state : state_of new ≡ state_after old.signs old.families (engine_pass params old cs)
  pub kept : new ≡ record old {
    patterns = new.patterns;
    hopeless = new.hopeless;
    families = new.families;
    tidy = new.tidy;
  }
