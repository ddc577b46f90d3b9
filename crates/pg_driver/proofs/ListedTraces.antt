-- A pass of the trace, with its candidates by the list of what it counts.
use Rattle.std.proofs.Common.{◌≡◌, List, sym, subst}
use Rattle.pg_types.specs.declared.parameters.LevelParams.{LevelParams}
use Rattle.pg_translate.specs.Alphabets.{Alphabet}
use Rattle.pg_dict.specs.Word.{Word}
use Rattle.pg_select.specs.declared.pass.Pass.{Pass}
use Rattle.pg_select.specs.CountedPositions.{Candidate}
use Rattle.pg_select.specs.Inside.words.PositionLists.{counted_positions, with_sums}
use Rattle.pg_select.proofs.LawsCounts.{candidates_listed}
use Rattle.pg_driver.specs.Traces.{Knowledge, PassTrace, pass_trace}

-- a pass with these candidates
abbrev pub pass_with_candidates : LevelParams → Knowledge → Pass → List Candidate → PassTrace
pass_with_candidates params known pass cs = record { pass = pass; params = params; before = known; candidates = cs }

module _ (T : Alphabet) (W : List Word) (params : LevelParams) (known : Knowledge) (pass : Pass) where
  abbrev pub listed_trace : PassTrace
  listed_trace = pass_with_candidates params known pass (with_sums (counted_positions T W pass known.patterns known.hopeless))

  -- what is so of it is so of the pass
  pub of_listed : (Q : PassTrace → Type 0) → Q listed_trace → Q (pass_trace T W params known pass)
  of_listed Q q = subst (λ (cs : List Candidate). Q (pass_with_candidates params known pass cs)) (sym (candidates_listed T W pass known.patterns known.hopeless)) q
