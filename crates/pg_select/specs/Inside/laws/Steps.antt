-- The steps of a level: bounds of values and of strings that cover, what a pass raises and makes
-- hopeless, and how the totals change.
use Rattle.std.specs.Prelude.{◌≡◌, ℕ, ◌+◌, nat_le, Bool, true, not, ◌&&◌, ◌||◌, List, length, filter, sum_by}
use Rattle.std.specs.List.{list_all, list_any}
use Rattle.pg_types.specs.declared.marks.Totals.{Totals}
use Rattle.pg_translate.specs.Alphabets.{Alphabet}
use Rattle.pg_dict.specs.Word.{Word}
use Rattle.pg_patterns.specs.Values.{Patterns}
use Rattle.pg_select.specs.Inside.laws.Laws.{raised_all, hopeless_all}
use Rattle.pg_select.specs.declared.pass.Pass.{Pass}
use Rattle.pg_select.specs.CountedPositions.{Candidate}
use Rattle.pg_select.specs.Inside.words.PositionLists.{CountedPosition, same_signs, good_of, bad_of, counted_positions, with_sums}
use Rattle.pg_select.specs.Windows.{Hopeless}

-- no value is as great as the level
abbrev pub IsBelow : ℕ → Patterns → Type 0
IsBelow level P = list_all (λ e. not (nat_le level e.1)) P ≡ true

-- each string that covers at the level has at most so many signs
pub record CoversUpTo (level len : ℕ) (P : Patterns) (H : Hopeless) : Type 0 where
  pub patterns : list_all (λ e. not (nat_le level e.1) || nat_le (length e.0.0) len) P ≡ true
  pub hopeless : list_all (λ e. nat_le (length e.0.0) len) H ≡ true

-- no value is greater than the level
abbrev pub IsUpTo : ℕ → Patterns → Type 0
IsUpTo level P = list_all (λ e. nat_le e.1 level) P ≡ true

-- a window as a candidate
abbrev pub candidate_at : List CountedPosition → List ℕ → Candidate
candidate_at counted u = record { window = u; good = good_of counted u; bad = bad_of counted u }

-- a window is counted, and as a candidate it meets a test
abbrev pub is_candidate : (Candidate → Bool) → List CountedPosition → List ℕ → Bool
is_candidate test counted u = list_any (λ s. same_signs u s.window) counted
    && test (candidate_at counted u)

-- the patterns after a pass that raised the candidates which meet a test
abbrev pub patterns_after_pass : Alphabet → List Word
    → Pass → Patterns → Hopeless → (Candidate → Bool) → Patterns
patterns_after_pass m words pass P H raised = raised_all pass.level pass.dot P
    (filter raised (with_sums (counted_positions m words pass P H)))

-- the hopeless dotted strings after a pass that made those candidates hopeless which meet a test
abbrev pub hopeless_after_pass : Alphabet → List Word
    → Pass → Patterns → Hopeless → (Candidate → Bool) → Hopeless
hopeless_after_pass m words pass P H hopeless = hopeless_all pass.dot H
    (filter hopeless (with_sums (counted_positions m words pass P H)))

-- the sum of the good weights of the candidates that a pass raised
abbrev pub good_raised : (Candidate → Bool) → List CountedPosition → ℕ
good_raised raised counted = sum_by (λ c. c.good) (filter raised (with_sums counted))

-- the sum of the bad weights of the candidates that a pass raised
abbrev pub bad_raised : (Candidate → Bool) → List CountedPosition → ℕ
bad_raised raised counted = sum_by (λ c. c.bad) (filter raised (with_sums counted))

-- at an odd level, the good that is raised is missed no more, and the bad becomes errors
pub record FindsMore (old new : Totals) (good bad : ℕ) : Type 0 where
  pub found : new.good ≡ old.good + good
  pub errors : new.bad ≡ old.bad + bad
  pub missed : new.missed + good ≡ old.missed

-- at an even level, the good that is raised is an error no more, and the bad is missed
pub record PreventsMore (old new : Totals) (good bad : ℕ) : Type 0 where
  pub found : new.good + bad ≡ old.good
  pub errors : new.bad + good ≡ old.bad
  pub missed : new.missed ≡ old.missed + bad
