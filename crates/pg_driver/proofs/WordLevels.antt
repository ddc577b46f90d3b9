-- A level of which each word is hyphenated in each pass, from its start through its passes.
use Rattle.std.proofs.Common.{◌≡◌, ℕ, ◌+◌, ◌-◌, ◌≤◌, nat_lt, Bool, true, false, cond, not, ◌&&◌, List, [], ◌∷◌, ◌++◌, length, fold, slice_get, append-nil, Option, Some, None, refl, sym, ap, subst, ◌∙◌, arith}
use Rattle.std.specs.List.{All, flat_map, sum_by}
use Rattle.std.specs.Option.{option_map_or}
use Rattle.std.specs.FinMap.Entries.{find}
use Rattle.pg_types.specs.declared.limits.TheConstants.{FILE_MAX}
use Rattle.pg_types.specs.declared.marks.Totals.{Totals}
use Rattle.pg_types.specs.declared.parameters.LevelParams.{LevelParams}
use Rattle.pg_types.specs.Inside.counting.Counts.{Counts}
use Rattle.pg_translate.specs.Alphabets.{Alphabet}
use Rattle.pg_select.specs.Sums.{totals as totals_by}
use Rattle.pg_translate.specs.Reach.{positions}
use Rattle.pg_dict.specs.Word.{Word}
use Rattle.pg_dict.specs.Inside.SoundWords.{letter_count}
use Rattle.pg_select.specs.declared.pass.Pass.{Pass}
use Rattle.pg_select.specs.Inside.Choices.{choice}
use Rattle.pg_select.specs.CountedPositions.{Candidate, counts_as}
use Rattle.pg_select.specs.Inside.words.PositionLists.{CountedPosition, counted_positions, good_of, bad_of}
use Rattle.pg_select.specs.Inside.laws.AboveLevel.{above_at, above_positions, bad_above, counts_above, good_above, MovesAllBut}
use Rattle.pg_select.specs.Inside.laws.ClosedDots.{is_good}
use Rattle.pg_select.specs.Inside.laws.Steps.{candidate_at, bad_raised, good_raised, is_candidate}
use Rattle.pg_select.specs.Inside.engine.Meanings.{with_position}
use Rattle.pg_select.specs.Statuses.{is_odd, position_weight, status_at}
use Rattle.pg_select.specs.Windows.{fits, window}
use Rattle.pg_patterns.specs.Values.{Patterns, value_at}
use Rattle.pg_select.proofs.LawsClosedDots.{good_is}
use Rattle.pg_select.proofs.LawsCounts.{cmp, counted_as, is_counted_window}
use Rattle.pg_select.proofs.LawsTotals.{above_stay, totals_after_above}
use Rattle.pg_driver.specs.declared.counting.above_positions.ChosenWeights.{ChosenWeights}
use Rattle.pg_driver.specs.declared.choices.Choices.{Choices}
use Rattle.pg_driver.specs.declared.pass_windows.WordPosition.{WordPosition}
use Rattle.pg_driver.specs.declared.counting.word_level.WordLevel.{WordLevel}
use Rattle.pg_driver.specs.Inside.counting.Counting.{IsBounded}
use Rattle.pg_driver.specs.Inside.counting.LevelCounting.{CanMove, Carries, IsAfterWords}
use Rattle.pg_driver.specs.Inside.counting.OpenLevels.{listed_from, listed_in, open_as}
use Rattle.pg_driver.specs.Inside.counting.OpenPositions.{IsInWord, counted_in, counted_of, open_with}
use Rattle.pg_driver.specs.Inside.records.SoundRecords.{IsSmall}
use Rattle.pg_driver.specs.Traces.{Knowledge, PassTrace, chosen_in, is_chosen, known_after}
use Rattle.pg_driver.specs.Inside.choices.Fates.{chooses}
use Rattle.pg_driver.proofs.FateLaws.{chosen_is as chosen_by_fate}
use Rattle.pg_driver.specs.Inside.counting.WordLevels.{IsWordsAt, chosen_weights, listing, was_chosen}
use Rattle.pg_driver.proofs.CarriedTotals.{carried_same, carried_small, carried_within, totals_are_small}
use Rattle.pg_driver.proofs.ListedTraces.{listed_trace}
use Rattle.pg_driver.proofs.OpenLevels.{found_is, listed_are, start_at}
use Rattle.pg_driver.proofs.OpenPlaces.{entries_few, entries_placed}
use Rattle.pg_driver.proofs.OpenPositions.{counted_by_entries}

-- nothing is listed where it is not said so
none_of : (n : ℕ) (ps : List ℕ) → flat_map (λ (p : ℕ). open_as n p None) ps ≡ []
none_of n [] = refl
none_of n (p ∷ ps) = none_of n ps

pub none_listed_in : (m : Alphabet) (level : ℕ) (P : Patterns) (n : ℕ) (w : Word) → listed_in m (listing false level P) n w ≡ []
none_listed_in m level P n w = none_of n (positions m.left m.right (length w.signs))

none_listed : (m : Alphabet) (level : ℕ) (P : Patterns) (n : ℕ) (words : List Word) → listed_from m (listing false level P) n words ≡ []
none_listed m level P n [] = refl
none_listed m level P n (w ∷ words) = λ i. none_listed_in m level P n w i ++ none_listed m level P (n + 1) words i

-- where a level begins
pub words_begin : (T : Alphabet) (W : List Word) (level : ℕ) (known : Knowledge) (e : WordLevel) → e.is_counted ≡ false → e.above.items ≡ [] → IsWordsAt T W level known e
words_begin T W level known e none empty = record {
  bounded = λ is. not_both e.is_counted (IsBounded T W) none is;
  above = empty ∙ sym (none_listed T level known.patterns 0 W) ∙ ap (λ (b : Bool). listed_from T (listing b level known.patterns) 0 W) (sym none);
  totals = λ is. not_both e.is_counted (e.totals ≡ totals_by T W known.patterns) none is;
}
  where
    not_both : (b : Bool) (P : Type 0) → b ≡ false → b ≡ true → P
    not_both b P is not = absurd (let wrong : false ≡ true = sym is ∙ not in cc)

-- after a pass was counted: the first one lists the positions
pub words_counted : (T : Alphabet) (W : List Word) (level : ℕ) (known : Knowledge) (e f : WordLevel) → IsWordsAt T W level known e → f.is_counted ≡ true → f.above.items
    ≡ e.above.items ++ listed_from T (listing (not e.is_counted) level known.patterns) 0 W → f.totals ≡ totals_by T W known.patterns → IsBounded T W
    → IsWordsAt T W level known f
words_counted T W level known e f is counted more totals bounded = record {
  bounded = λ _. bounded;
  above = more ∙ ap (λ (es : List WordPosition). es ++ listed (not e.is_counted)) is.above ∙ whole e.is_counted ∙ ap listed (sym counted);
  totals = λ _. totals;
}
  where
    listed : Bool → List WordPosition
    listed b = listed_from T (listing b level known.patterns) 0 W

    whole : (b : Bool) → listed_from T (listing b level known.patterns) 0 W ++ listed_from T (listing (not b) level known.patterns) 0 W
        ≡ listed_from T (listing true level known.patterns) 0 W
    whole true = ap (λ (es : List WordPosition). listed_from T (listing true level known.patterns) 0 W ++ es) (none_listed T level known.patterns 0 W)
        ∙ append-nil (listed_from T (listing true level known.patterns) 0 W)
    whole false = ap (λ (es : List WordPosition). es ++ listed_from T (listing true level known.patterns) 0 W) (none_listed T level known.patterns 0 W)

-- listed positions stand in the words, and are no more than letters
pub words_placed : (T : Alphabet) (W : List Word) (level : ℕ) (known : Knowledge) (e : WordLevel) → e.is_counted ≡ true → IsWordsAt T W level known e
    → All (IsInWord W) e.above.items × (length e.above.items ≤ FILE_MAX)
words_placed T W level known e begun is =
    let are : e.above.items ≡ flat_map (open_with (start_at T W (listing e.is_counted level known.patterns))) _ = is.above
    ∙ listed_are T W (listing e.is_counted level known.patterns) in
    let few : length e.above.items ≤ sum_by letter_count W =
    entries_few T W (start_at T W (listing e.is_counted level known.patterns)) e.above.items (is.bounded begun).reached are in
    let letters : sum_by letter_count W ≤ FILE_MAX = (is.bounded begun).few.letters in
    (entries_placed T W (start_at T W (listing e.is_counted level known.patterns)) e.above.items are, omega arith)

-- the windows of the listed positions
module _ (m : Alphabet) (words : List Word) (pass : Pass) (P : Patterns) where
  abbrev above : Word → ℕ → Option Bool
  above = counts_above pass.level P

  none_fits : (w : Word) (p : ℕ) (f : Bool) → counted_as (window w.signs p pass.len pass.dot) (position_weight w p) (cond f None None) ≡ []
  none_fits w p true = refl
  none_fits w p false = refl

  by_test : (w : Word) (p : ℕ) (a good : Bool) → cond a (counts_as pass.level (status_at P w p)) None ≡ Some good → good ≡ is_good pass.level w p
  by_test w p true good is = good_is pass.level P w p good is
  by_test w p false good is = cc

  one_fits : (w : Word) (p : ℕ) (f good : Bool) → good ≡ is_good pass.level w p → counted_as (window w.signs p pass.len pass.dot) (position_weight w p) (cond f (Some good) None)
      ≡ counted_as (window w.signs p pass.len pass.dot) (position_weight w p) (cond (f && true) (Some (is_good pass.level w p)) None)
  one_fits w p true good is = ap (λ b. counted_as (window w.signs p pass.len pass.dot) (position_weight w p) (Some b)) is
  one_fits w p false good is = refl

  each : (n p : ℕ) (w : Word) → slice_get words n ≡ Some w → above_at pass P w p ≡ flat_map (counted_of pass words) (open_with (start_at m words above) (n, p))
  each n p w at =
      by_count (above w p) refl
      ∙ ap (λ (o : Option Word). flat_map (counted_of pass words) (option_map_or (λ (good : Bool). record { word = n; at = p } ∷ []) (started o) [])) (sym at)
    where
      started : Option Word → Option Bool
      started None = None
      started (Some u) = above u p

      by_count : (o : Option Bool) → above w p ≡ o
          → counted_as (window w.signs p pass.len pass.dot) (position_weight w p) (cond (fits w.signs p pass.len pass.dot) o None)
          ≡ flat_map (counted_of pass words) (option_map_or (λ (good : Bool). record { word = n; at = p } ∷ []) o [])
      by_count None is = none_fits w p (fits w.signs p pass.len pass.dot)
      by_count (Some good) is =
          one_fits w p (fits w.signs p pass.len pass.dot) good (by_test w p (nat_lt pass.level (value_at P w.signs p)) good is)
          ∙ ap (λ (o : Option Word). option_map_or (λ (u : Word). counted_in pass u p) o []) (sym at)
          ∙ sym (append-nil (counted_of pass words (record { word = n; at = p })))

  windows_are : (entries : List WordPosition) → entries ≡ listed_from m above 0 words → flat_map (counted_of pass words) entries ≡ above_positions m words pass P
  windows_are entries are = sym (counted_by_entries m words (start_at m words above) (counted_of pass words) (above_at pass P) each entries (are ∙ listed_are m words above))

-- a window was chosen where it is a candidate that is
chosen_is : (params : LevelParams) (counts : Counts) (counted : List CountedPosition) (u : List ℕ) → counts ≡ fold with_position [] counted
    → was_chosen params counts u ≡ is_candidate (λ (c : Candidate). is_chosen params c) counted u
chosen_is params counts counted u are =
    ap (λ (o : Option (ℕ × ℕ)). option_map_or (λ (sums : ℕ × ℕ). chooses (choice params sums.0 sums.1)) o false) (ap (find cmp u) are ∙ found_is counted u)
    ∙ by_test (is_counted_window counted u)
  where
    by_test : (b : Bool) → option_map_or (λ (sums : ℕ × ℕ). chooses (choice params sums.0 sums.1)) (cond b (Some (good_of counted u, bad_of counted u)) None) false
        ≡ (b && is_chosen params (candidate_at counted u))
    by_test true = sym (chosen_by_fate params (candidate_at counted u))
    by_test false = refl

-- after a pass
module _ (T : Alphabet) (W : List Word) (params : LevelParams) (known : Knowledge) (pass : Pass) (n : Choices) where
  abbrev made : PassTrace
  made = listed_trace T W params known pass

  abbrev chosen : Candidate → Bool
  chosen c = is_chosen params c

  abbrev counted : List CountedPosition
  counted = counted_positions T W pass known.patterns known.hopeless

  abbrev stays : List CountedPosition
  stays = above_positions T W pass known.patterns

  law : MovesAllBut (is_odd pass.level) (totals_by T W known.patterns) (totals_by T W (known_after made).patterns) (good_raised chosen counted)
      (bad_raised chosen counted) (good_above chosen counted stays) (bad_above chosen counted stays)
  law = totals_after_above T W pass known.patterns known.hopeless chosen

  module _ (counts : Counts) (e : WordLevel) (is : IsWordsAt T W pass.level known e) (begun : e.is_counted ≡ true) (are : counts ≡ fold with_position [] counted)
      (good : n.good ≡ sum_by (λ c. c.good) (chosen_in made)) (bad : n.bad ≡ sum_by (λ c. c.bad) (chosen_in made)) where
    abbrev kept : ChosenWeights
    kept = chosen_weights params pass counts W e.above.items

    windows : flat_map (counted_of pass W) e.above.items ≡ stays
    windows = windows_are T W pass known.patterns e.above.items
        (is.above ∙ ap (λ (b : Bool). listed_from T (listing b pass.level known.patterns) 0 W) begun)

    good_is_kept : kept.good ≡ good_above chosen counted stays
    good_is_kept = λ i. sum_by (λ s. cond (s.good && chosen_is params counts counted s.window are i) s.weight 0) (windows i)

    bad_is_kept : kept.bad ≡ bad_above chosen counted stays
    bad_is_kept = λ i. sum_by (λ s. cond (not s.good && chosen_is params counts counted s.window are i) s.weight 0) (windows i)

    good_within : kept.good ≤ n.good
    good_within = omega (arith, good_is_kept, good, law.good_within)

    bad_within : kept.bad ≤ n.bad
    bad_within = omega (arith, bad_is_kept, bad, law.bad_within)

    good_rest : n.good - kept.good ≡ good_raised chosen counted - good_above chosen counted stays
    good_rest = λ i. good i - good_is_kept i

    bad_rest : n.bad - kept.bad ≡ bad_raised chosen counted - bad_above chosen counted stays
    bad_rest = λ i. bad i - bad_is_kept i

    carries : Carries (is_odd pass.level) e.totals (totals_by T W (known_after made).patterns) (n.good - kept.good) (n.bad - kept.bad)
    carries =
        subst (λ (g : ℕ). Carries (is_odd pass.level) e.totals (totals_by T W (known_after made).patterns) g (n.bad - kept.bad)) (sym good_rest)
        (subst (λ (b : ℕ). Carries (is_odd pass.level) e.totals (totals_by T W (known_after made).patterns) (good_raised chosen counted - good_above chosen counted stays) b) (sym bad_rest)
        (subst (λ (t : Totals). Carries (is_odd pass.level) t (totals_by T W (known_after made).patterns) (good_raised chosen counted - good_above chosen counted stays)
        (bad_raised chosen counted - bad_above chosen counted stays)) (sym (is.totals begun)) law.totals))

    pub words_can_move : CanMove (is_odd pass.level) e.totals n kept
    words_can_move =
        let before : IsSmall e.totals = subst IsSmall (sym (is.totals begun)) (totals_are_small T W known.patterns (is.bounded begun)) in
        let after : IsSmall (totals_by T W (known_after made).patterns) = totals_are_small T W (known_after made).patterns (is.bounded begun) in
        record {
          good = good_within;
          bad = bad_within;
          rest = record {
            small = before;
            sums = carried_small (is_odd pass.level) e.totals (totals_by T W (known_after made).patterns) (n.good - kept.good) (n.bad - kept.bad) before after carries;
            within = carried_within (is_odd pass.level) e.totals (totals_by T W (known_after made).patterns) (n.good - kept.good) (n.bad - kept.bad) carries;
          };
        }

    pub words_after : (f : WordLevel) → IsAfterWords (is_odd pass.level) n kept e f → IsWordsAt T W pass.level (known_after made) f
    words_after f on = record {
      bounded = λ _. is.bounded begun;
      above =
          on.above
          ∙ is.above
          ∙ ap (λ (b : Bool). listed_from T (listing b pass.level known.patterns) 0 W) (sym on.counted)
          ∙ (λ i. listed_from T (λ w p. cond f.is_counted (sym (above_stay T W pass known.patterns known.hopeless chosen w p) i) None) 0 W);
      totals = λ _. carried_same (is_odd pass.level) e.totals f.totals (totals_by T W (known_after made).patterns) (n.good - kept.good) (n.bad - kept.bad) on.totals carries;
    }
