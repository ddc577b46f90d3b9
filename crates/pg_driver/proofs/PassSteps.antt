-- A pass, and what it records.
use Rattle.std.proofs.Common.{◌≡◌, ℕ, List, [], length, map, fold, Option, None, Some, sym, ap, ◌∙◌}
use Rattle.std.specs.List.{sum_by}
use Rattle.std.specs.Option.{option_map, MatchOption}
use Rattle.pg_types.specs.declared.marks.Layout.{Layout}
use Rattle.pg_types.specs.declared.marks.Totals.{Totals}
use Rattle.pg_types.specs.declared.parameters.LevelParams.{LevelParams}
use Rattle.pg_types.specs.Placement.{Families, top}
use Rattle.pg_types.specs.Inside.PlacementSteps.{taken_count}
use Rattle.pg_select.specs.Sums.{totals as totals_by}
use Rattle.pg_translate.specs.Alphabets.{Alphabet}
use Rattle.pg_types.specs.Inside.counting.Counts.{Counts}
use Rattle.pg_dict.specs.Word.{Word}
use Rattle.pg_select.specs.Inside.engine.Meanings.{Meaning, IsLayout, after_begin_pass, with_position}
use Rattle.pg_select.specs.declared.pass.Pass.{Pass}
use Rattle.pg_select.specs.CountedPositions.{Candidate}
use Rattle.pg_select.specs.Inside.words.PositionLists.{CountedPosition, counted_positions}
use Rattle.pg_select.proofs.LawsCounts.{sums_are_counts}
use Rattle.pg_driver.specs.declared.choices.Choices.{Choices}
use Rattle.pg_driver.specs.declared.records.PassRecord.{PassRecord}
use Rattle.pg_driver.specs.Inside.records.AccountLines.{pass_line}
use Rattle.pg_driver.specs.Inside.choices.Choosing.{HasChosen, candidate_of, no_choices, with_candidates}
use Rattle.pg_driver.specs.Inside.level.States.{DidPass, made_by, state_of, state_after}
use Rattle.pg_driver.specs.Inside.records.RunAccounts.{pass_record_layout, line_of}
use Rattle.pg_driver.specs.Traces.{PassTrace}
use Rattle.pg_driver.specs.Inside.choices.Fates.{chosen_of, hopeless_of}
use Rattle.pg_driver.proofs.ChoiceSteps.{state_with}
use Rattle.pg_driver.proofs.Numbers.{zero_plus}

-- what a pass of an engine counts
abbrev pub seen_in : Alphabet → List Word → Pass → Meaning → List CountedPosition
seen_in t words pass m = counted_positions t words pass m.patterns m.hopeless

-- the pass, and its candidates
abbrev pub pass_in : Alphabet → List Word → LevelParams → Pass → Meaning → PassTrace
pass_in t words params pass m = made_by t words params m pass

pub counts_are : (t : Alphabet) (words : List Word) (params : LevelParams) (pass : Pass) (m : Meaning) (cs : Counts) → cs ≡ fold with_position [] (seen_in t words pass m)
    → map candidate_of cs ≡ (pass_in t words params pass m).candidates
counts_are t words params pass m cs is = ap (λ (xs : Counts). map candidate_of xs) (is ∙ sym (sums_are_counts t words pass m.patterns m.hopeless))

-- the state after the pass
pub pass_state : (t : Alphabet) (words : List Word) (params : LevelParams) (pass : Pass) (m m1 n : Meaning) (cs : Counts) → m1 ≡ after_begin_pass m pass.level pass.len pass.dot
    → cs ≡ fold with_position [] (seen_in t words pass m) → HasChosen params (map candidate_of cs) m1 n → state_of n ≡ state_after m.signs m.families (pass_in t words params pass m)
pass_state t words params pass m m1 n cs begins is has =
    has.state
    ∙ ap (λ (x : Meaning). state_with x.signs params x.pass (state_of x) (map candidate_of cs)) begins
    ∙ ap (λ (es : List Candidate). state_with m.signs params pass (state_of m) es) (counts_are t words params pass m cs is)

-- the numbers of a pass as a record
abbrev pub record_with : Pass → Totals → Choices → Option Layout → PassRecord
record_with pass before n layout = record {
  level = pass.level;
  len = pass.len;
  dot = pass.dot;
  before = before;
  candidates = n.candidates;
  chosen = n.chosen;
  hopeless = n.hopeless;
  good = n.good;
  bad = n.bad;
  layout = layout;
}

-- the line of the pass
line_is : (T : Alphabet) (W : List Word) (params : LevelParams) (pass : Pass) (m : Meaning) (before : Totals) (n : Choices) (layout : Option Layout)
    → before ≡ totals_by T W m.patterns → n ≡ with_candidates params no_choices (made_by T W params m pass).candidates → line_of (record_with pass before n layout)
    ≡ pass_line T W (made_by T W params m pass)
line_is T W params pass m before n layout totals numbers =
    let cs : List Candidate = (made_by T W params m pass).candidates in
    let candidates : n.candidates ≡ length cs = ap (λ (x : Choices). x.candidates) numbers ∙ zero_plus (length cs) in
    let chosen : n.chosen ≡ length (chosen_of params cs) = ap (λ (x : Choices). x.chosen) numbers ∙ zero_plus (length (chosen_of params cs)) in
    let hopeless : n.hopeless ≡ length (hopeless_of params cs) = ap (λ (x : Choices). x.hopeless) numbers ∙ zero_plus (length (hopeless_of params cs)) in
    let good : n.good ≡ sum_by (λ (c : Candidate). c.good) (chosen_of params cs) = ap (λ (x : Choices). x.good) numbers ∙ zero_plus (sum_by (λ (c : Candidate). c.good) (chosen_of params cs)) in
    let bad : n.bad ≡ sum_by (λ (c : Candidate). c.bad) (chosen_of params cs) = ap (λ (x : Choices). x.bad) numbers ∙ zero_plus (sum_by (λ (c : Candidate). c.bad) (chosen_of params cs)) in
    λ i. record { pass = pass; before = totals i; candidates = candidates i; chosen = chosen i; hopeless = hopeless i; good = good i; bad = bad i }

-- the layout after it
abbrev told : Pass → ℕ → ℕ → Option (Pass × ℕ × ℕ)
told pass a b = let p : Pass × ℕ × ℕ = (pass, a, b) in Some p

some_layout : (pass : Pass) (o : Option Families) (l : Layout) → MatchOption o ⊥ (λ fs. (l.taken ≡ taken_count fs) × (l.top ≡ top fs)) → told pass l.taken l.top
    ≡ option_map (λ fs. (pass, taken_count fs, top fs)) o
some_layout pass None l is = absurd is
some_layout pass (Some fs) l is = λ i. told pass (is.0 i) (is.1 i)

layout_is : (pass : Pass) (before : Totals) (n : Choices) (m : Meaning) (o : Option Layout) → IsLayout m o → pass_record_layout (record_with pass before n o)
    ≡ option_map (λ fs. (pass, taken_count fs, top fs)) m.families
layout_is pass before n m None is = ap (option_map (λ fs. (pass, taken_count fs, top fs))) (sym is)
layout_is pass before n m (Some l) is = some_layout pass m.families l is.0

begun_kept : (params : LevelParams) (cs : List Candidate) (old new : Meaning) → HasChosen params cs old new → new.begun ≡ old.begun
begun_kept params cs old new has = ap (λ (x : Meaning). x.begun) has.kept

-- a pass that was counted and chosen among
pub did_pass : (t : Alphabet) (words : List Word) (params : LevelParams) (pass : Pass) (m m1 n : Meaning) (cs : Counts) (before : Totals) (numbers : Choices) (layout : Option Layout)
    → m1 ≡ after_begin_pass m pass.level pass.len pass.dot → cs ≡ fold with_position [] (seen_in t words pass m)
    → before ≡ totals_by t words m.patterns → HasChosen params (map candidate_of cs) m1 n → numbers
    ≡ with_candidates params no_choices (map candidate_of cs) → IsLayout n layout
    → DidPass t words params pass m n (record_with pass before numbers layout)
did_pass t words params pass m m1 n cs before numbers layout begins counted totals has chosen tells = record {
  state = pass_state t words params pass m m1 n cs begins counted has;
  line = line_is t words params pass m before numbers layout totals (chosen
      ∙ ap (λ (es : List Candidate). with_candidates params no_choices es) (counts_are t words params pass m cs counted));
  layout = layout_is pass before numbers n layout tells;
  begun = begun_kept params (map candidate_of cs) m1 n has ∙ ap (λ (x : Meaning). x.begun) begins;
}

-- what was counted, by what was known before the pass
pub counted_as : (t : Alphabet) (words : List Word) (pass : Pass) (m m1 : Meaning) (cs : Counts) → m1 ≡ after_begin_pass m pass.level pass.len pass.dot → cs
    ≡ fold with_position [] (counted_positions t words pass m1.patterns m1.hopeless) → cs ≡ fold with_position [] (seen_in t words pass m)
counted_as t words pass m m1 cs begins counts = counts ∙ ap (λ (x : Meaning). fold with_position [] (counted_positions t words pass x.patterns x.hopeless)) begins

pub numbers_are : (t : Alphabet) (words : List Word) (params : LevelParams) (pass : Pass) (m : Meaning) (cs : Counts) (numbers : Choices) → cs ≡ fold with_position [] (seen_in t words pass m)
    → numbers ≡ with_candidates params no_choices (map candidate_of cs)
    → numbers ≡ with_candidates params no_choices (pass_in t words params pass m).candidates
numbers_are t words params pass m cs numbers counted is = is ∙ ap (λ (es : List Candidate). with_candidates params no_choices es) (counts_are t words params pass m cs counted)
