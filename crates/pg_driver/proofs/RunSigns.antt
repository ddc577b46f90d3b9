-- The signs of the patterns of a run: they are those of its starting patterns and of its words.
use Rattle.std.proofs.Common.{◌≡◌, ℕ, ◌-◌, ◌≤◌, max, nat_le, Bool, true, List, [], ◌∷◌, drop, length, Option, None, Some, refl, ap, ◌∙◌}
use Rattle.std.specs.List.{All, list_all, enumerate_from}
use Rattle.std.proofs.lemmas.Bool.{and_from, and_parts, leb-true, le-leb}
use Rattle.std.proofs.lemmas.List.Elements.{All-nil, All-cons, All-head, All-tail, All-drop, All-take}
use Rattle.std.proofs.lemmas.List.Folds.{list_all-append, list_all-map}
use Rattle.pg_types.specs.declared.parameters.LevelParams.{LevelParams}
use Rattle.pg_types.specs.Parameters.{Parameters}
use Rattle.pg_translate.specs.Alphabets.{Alphabet}
use Rattle.pg_translate.specs.Reach.{positions}
use Rattle.pg_dict.specs.Word.{Word}
use Rattle.pg_dict.specs.Inside.SoundWords.{SignsAtMost}
use Rattle.pg_patterns.specs.Values.{Patterns, raise, value_of}
use Rattle.pg_patterns.specs.Inside.PatternMaps.{SignsUpTo}
use Rattle.pg_select.specs.declared.pass.Pass.{Pass}
use Rattle.pg_select.specs.CountedPositions.{Candidate, candidates_of, counted_at}
use Rattle.pg_select.specs.Inside.words.PositionLists.{CountedPosition, candidates, counted_positions, counted_positions_at, good_of, bad_of, with_sums}
use Rattle.pg_select.specs.Inside.laws.Laws.{raised_all}
use Rattle.pg_select.specs.Inside.engine.Meanings.{Meaning}
use Rattle.pg_select.specs.Inside.words.WordCounts.{counted_positions_in}
use Rattle.pg_select.specs.Statuses.{position_weight}
use Rattle.pg_select.specs.Windows.{Hopeless, window}
use Rattle.pg_select.proofs.LawsBounds.{all_put}
use Rattle.pg_select.proofs.LawsCandidates.{all_candidates, all_flat}
use Rattle.pg_select.proofs.LawsRaised.{all_kept}
use Rattle.pg_select.proofs.LawsCounts.{candidates_listed, counted_as}
use Rattle.pg_driver.specs.Inside.level.Passes.{level_traces, pass_traces, known_at_end}
use Rattle.pg_driver.specs.Inside.records.RunAccounts.{patterns_from}
use Rattle.pg_driver.specs.Traces.{Knowledge, at_start, chosen_in, final_patterns, is_chosen, known_after, level_trace, pass_trace, passes_of, patterns_after}

-- the signs of a string are at most n
abbrev is_low : ℕ → List ℕ → Bool
is_low n u = list_all (λ (s : ℕ). nat_le s n) u

low_from : (n : ℕ) (u : List ℕ) → All (λ s. s ≤ n) u → is_low n u ≡ true
low_from n [] all = refl
low_from n (s ∷ u) all = and_from (nat_le s n) (is_low n u) (le-leb s n (All-head (λ s. s ≤ n) s u all)) (low_from n u (All-tail (λ s. s ≤ n) s u all))

low_tells : (n : ℕ) (u : List ℕ) → is_low n u ≡ true → All (λ s. s ≤ n) u
low_tells n [] low = All-nil (λ s. s ≤ n)
low_tells n (s ∷ u) low = let parts = and_parts (nat_le s n) (is_low n u) low in All-cons (λ s. s ≤ n) s u (leb-true s n parts.0) (low_tells n u parts.1)

-- and so are those of all patterns
abbrev are_low : ℕ → Patterns → Bool
are_low n P = list_all (λ (e : (List ℕ × ℕ) × ℕ). is_low n e.0.0) P

patterns_low : (n : ℕ) (P : Patterns) → SignsUpTo n P → are_low n P ≡ true
patterns_low n [] all = refl
patterns_low n (e ∷ P) all =
    and_from (is_low n e.0.0) (are_low n P) (low_from n e.0.0 (All-head (λ (e : (List ℕ × ℕ) × ℕ). All (λ s. s ≤ n) e.0.0) e P all))
    (patterns_low n P (All-tail (λ (e : (List ℕ × ℕ) × ℕ). All (λ s. s ≤ n) e.0.0) e P all))

patterns_tell : (n : ℕ) (P : Patterns) → are_low n P ≡ true → SignsUpTo n P
patterns_tell n [] low = All-nil (λ (e : (List ℕ × ℕ) × ℕ). All (λ s. s ≤ n) e.0.0)
patterns_tell n (e ∷ P) low =
    let parts = and_parts (is_low n e.0.0) (are_low n P) low in
    All-cons (λ (e : (List ℕ × ℕ) × ℕ). All (λ s. s ≤ n) e.0.0) e P (low_tells n e.0.0 parts.0) (patterns_tell n P parts.1)

-- what a pass counts has signs of the words
abbrev low_windows : ℕ → List CountedPosition → Bool
low_windows n seen = list_all (λ (s : CountedPosition). is_low n s.window) seen

low_position : (n : ℕ) (pass : Pass) (P : Patterns) (H : Hopeless) (w : Word) (p : ℕ) → All (λ s. s ≤ n) w.signs → low_windows n (counted_positions_at pass P H w p) ≡ true
low_position n pass P H w p all = by (counted_at pass P H w p)
  where
    by : (o : Option Bool) → low_windows n (counted_as (window w.signs p pass.len pass.dot) (position_weight w p) o) ≡ true
    by None = refl
    by (Some good) =
        and_from (is_low n (window w.signs p pass.len pass.dot)) true
        (low_from n (window w.signs p pass.len pass.dot) (All-take (λ s. s ≤ n) pass.len (drop (p - pass.dot) w.signs) (All-drop (λ s. s ≤ n) (p - pass.dot) w.signs all))) refl

low_counted : (n : ℕ) (m : Alphabet) (words : List Word) (pass : Pass) (P : Patterns) (H : Hopeless) → SignsAtMost n words → low_windows n (counted_positions m words pass P H) ≡ true
low_counted n m [] pass P H all = refl
low_counted n m (w ∷ words) pass P H all =
    let here : All (λ s. s ≤ n) w.signs = All-head (λ (w : Word). All (λ s. s ≤ n) w.signs) w words all in
    list_all-append (λ (s : CountedPosition). is_low n s.window) (counted_positions_in m pass P H w) (counted_positions m words pass P H)
    ∙ and_from (low_windows n (counted_positions_in m pass P H w)) (low_windows n (counted_positions m words pass P H))
    (all_flat (λ (s : CountedPosition). is_low n s.window) (counted_positions_at pass P H w) (positions m.left m.right (length w.signs)) (λ p. low_position n pass P H w p here))
    (low_counted n m words pass P H (All-tail (λ (w : Word). All (λ s. s ≤ n) w.signs) w words all))

-- and so do the candidates that it chooses
abbrev low_candidates : ℕ → List Candidate → Bool
low_candidates n cs = list_all (λ (c : Candidate). is_low n c.window) cs

module _ (n : ℕ) (T : Alphabet) (W : List Word) (params : LevelParams) (words : SignsAtMost n W) where
  low_chosen : (known : Knowledge) (pass : Pass) → low_candidates n (chosen_in (pass_trace T W params known pass)) ≡ true
  low_chosen known pass =
      let seen : List CountedPosition = counted_positions T W pass known.patterns known.hopeless in
      all_kept (λ (c : Candidate). is_low n c.window) (is_chosen params) (candidates_of T W pass known.patterns known.hopeless)
      (ap (λ (cs : List Candidate). low_candidates n cs) (candidates_listed T W pass known.patterns known.hopeless)
      ∙ list_all-map (λ (c : Candidate). is_low n c.window) (λ (u : List ℕ). record { window = u; good = good_of seen u; bad = bad_of seen u }) (candidates seen)
      ∙ all_candidates (is_low n) seen
      ∙ low_counted n T W pass known.patterns known.hopeless words)

  low_raised : (level dot : ℕ) (P : Patterns) (cs : List Candidate) → low_candidates n cs ≡ true → are_low n P ≡ true → are_low n (raised_all level dot P cs) ≡ true
  low_raised level dot P [] all low = low
  low_raised level dot P (c ∷ cs) all low =
      let parts = and_parts (is_low n c.window) (low_candidates n cs) all in
      low_raised level dot (raise P (c.window, dot) level) cs parts.1 (all_put (λ (e : (List ℕ × ℕ) × ℕ). is_low n e.0.0) (c.window, dot) (max level (value_of P (c.window, dot))) P parts.0 low)

  -- through the passes of a level
  low_passes : (known : Knowledge) (passes : List Pass) → are_low n known.patterns ≡ true → are_low n (known_at_end known (pass_traces T W params known passes)).patterns ≡ true
  low_passes known [] low = low
  low_passes known (pass ∷ passes) low =
      let made = pass_trace T W params known pass in
      low_passes (known_after made) passes (low_raised pass.level pass.dot known.patterns (chosen_in made) (low_chosen known pass) low)

-- and through the levels
low_levels : (n : ℕ) (T : Alphabet) (W : List Word) (words : SignsAtMost n W) (P : Patterns) (levels : List (ℕ × LevelParams)) → are_low n P ≡ true
    → are_low n (final_patterns P (level_traces T W P levels)) ≡ true
low_levels n T W words P [] low = low
low_levels n T W words P (level ∷ levels) low =
    low_levels n T W words (patterns_after (level_trace T W P level)) levels (low_passes n T W level.1 words (at_start P) (passes_of level.0 level.1) low)

-- the signs of the patterns at the end are at most n, where those of the words and of the start are
pub run_signs : (n : ℕ) (t : Alphabet) (words : List Word) (parameters : Parameters) (m : Meaning) → SignsAtMost n words → SignsUpTo n m.patterns → SignsUpTo n (patterns_from t words parameters m)
run_signs n t words parameters m all start =
    patterns_tell n (patterns_from t words parameters m) (low_levels n t words all m.patterns (enumerate_from parameters.start parameters.levels) (patterns_low n m.patterns start))
