-- The run of a selection as a trace: every pass of every level, with what is known before it and
-- with the windows that it counts. No pass is skipped, and nothing here knows of cells.
use Rattle.std.specs.Prelude.{ℕ, ◌+◌, ◌-◌, ◌*◌, nat_lt, nat_le, Bool, ◌||◌, List, [], ◌∷◌, map, filter, fold}
use Rattle.std.specs.List.{flat_map, range_with_len, enumerate_from}
use Rattle.std.specs.FinMap.Entries.{put}
use Rattle.pg_types.specs.declared.parameters.LevelParams.{LevelParams}
use Rattle.pg_types.specs.Parameters.{Parameters}
use Rattle.pg_dict.specs.Word.{Word}
use Rattle.pg_patterns.specs.DottedSigns.{dotted_cmp}
use Rattle.pg_patterns.specs.Values.{Patterns, raise}
use Rattle.pg_select.specs.Windows.{Hopeless}
use Rattle.pg_select.specs.declared.pass.Pass.{Pass}
use Rattle.pg_select.specs.CountedPositions.{Candidate, candidates_of}
use Rattle.pg_driver.specs.Dots.{order}
use Rattle.pg_translate.specs.Alphabets.{Alphabet}

-- what is known at a moment: the patterns so far, and the dotted strings that are hopeless now
pub record Knowledge : Type 0 where
  pub patterns : Patterns
  pub hopeless : Hopeless

-- a pass of the run: what it is, what is known before it, and its candidates in the order of signs
pub record PassTrace : Type 0 where
  pub pass : Pass
  pub params : LevelParams
  pub before : Knowledge
  pub candidates : List Candidate

-- a level of the run: its number, the patterns before it, and all its passes in order
pub record LevelTrace : Type 0 where
  pub number : ℕ
  pub before : Patterns
  pub passes : List PassTrace

-- a trace: the levels of a run, in order
abbrev pub Trace : Type 0
Trace = List LevelTrace

-- steps that are made one after the other: each begins with what is known after the one before it
abbrev pub chain : {K X Y : Type 0} → (K → X → Y) → (Y → K) → K → List X → List Y
chain make after known [] = []
chain make after known (x ∷ xs) = let y = make known x in y ∷ chain make after (after y) xs

-- whether the good of a candidate cannot reach the threshold
abbrev pub is_hopeless : LevelParams → Candidate → Bool
is_hopeless params c = nat_lt (c.good * params.good_wt) params.thresh

-- whether the good of a candidate less its bad reaches the threshold
abbrev pub is_chosen : LevelParams → Candidate → Bool
is_chosen params c = nat_le (params.thresh + c.bad * params.bad_wt) (c.good * params.good_wt)

-- whether a candidate is hopeless or chosen; every other is left to longer patterns
abbrev pub is_entered : LevelParams → Candidate → Bool
is_entered params c = is_hopeless params c || is_chosen params c

-- the candidates that a pass chose
abbrev pub chosen_in : PassTrace → List Candidate
chosen_in p = filter (is_chosen p.params) p.candidates

-- the candidates that a pass found hopeless
abbrev pub hopeless_in : PassTrace → List Candidate
hopeless_in p = filter (is_hopeless p.params) p.candidates

-- what is known after a pass: chosen windows have the level as value, hopeless ones are hopeless
abbrev pub known_after : PassTrace → Knowledge
known_after p = record {
  patterns = fold (λ P c. raise P (c.window, p.pass.dot) p.pass.level) p.before.patterns
      (chosen_in p);
  hopeless = fold (λ H c. put dotted_cmp (c.window, p.pass.dot) (tt {0}) H) p.before.hopeless
      (hopeless_in p);
}

-- a pass over the words W of a table T that is made when this is known
abbrev pub pass_trace : Alphabet → List Word → LevelParams → Knowledge → Pass → PassTrace
pass_trace T W params known pass =
    let candidates = candidates_of T W pass known.patterns known.hopeless in
    record { pass = pass; params = params; before = known; candidates = candidates }

-- the passes of a level in their order: those of each length, and of a length each dot in its order
abbrev pub passes_of : ℕ → LevelParams → List Pass
passes_of n params = flat_map
    (λ len. map (λ dot. record { level = n; len = len; dot = dot }) (order len))
    (range_with_len params.pat_start (params.pat_finish + 1 - params.pat_start))

-- a level begins with these patterns and with nothing hopeless
abbrev pub at_start : Patterns → Knowledge
at_start P = record { patterns = P; hopeless = [] }

-- a level that is made when these are the patterns
abbrev pub level_trace : Alphabet → List Word → Patterns → ℕ × LevelParams → LevelTrace
level_trace T W P level = let passes = chain (pass_trace T W level.1) known_after (at_start P)
    (passes_of level.0 level.1) in
    record { number = level.0; before = P; passes = passes }

-- the patterns after a level: those known after its last pass, or else those before it
abbrev pub patterns_after : LevelTrace → Patterns
patterns_after l = (fold (λ _ known. known) (at_start l.before) (map known_after l.passes)).patterns

-- the trace of the run from starting patterns: one level for each of the parameters
abbrev pub trace : Alphabet → List Word → Parameters → Patterns → Trace
trace T W parameters S = chain (level_trace T W) patterns_after S
    (enumerate_from parameters.start parameters.levels)

-- the patterns at the end of a run from S: those after its last level, or else S
abbrev pub final_patterns : Patterns → Trace → Patterns
final_patterns S run = fold (λ _ P. P) S (map patterns_after run)
