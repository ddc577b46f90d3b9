-- What is known of the open positions of a level, from its start through its passes and lengths.
use Rattle.std.proofs.Common.{◌≡◌, ℕ, ◌+◌, ◌-◌, ◌≤◌, ◌<◌, nat_le, nat_eq, Bool, true, false, cond, not, ◌&&◌, ◌||◌, List, [], length, fold, max, slice_get, slice_index_or, is_some, Option, Some, None, inl, inr, refl, sym, ap, subst, ◌∙◌, arith}
use Rattle.std.specs.Option.{option_map_or}
use Rattle.std.proofs.lemmas.Bool.{cases_Bool, cases_eq, eq-eqb, ne_eqb}
use Rattle.pg_types.specs.declared.limits.TheConstants.{LENGTH_MAX}
use Rattle.pg_types.specs.declared.parameters.LevelParams.{LevelParams}
use Rattle.pg_types.specs.Inside.counting.Counts.{Counts, counted_sums}
use Rattle.pg_types.specs.declared.marks.Mark.{Mark}
use Rattle.pg_translate.specs.Alphabets.{Alphabet}
use Rattle.pg_dict.specs.Word.{Word}
use Rattle.pg_patterns.specs.Values.{Patterns, value_at}
use Rattle.pg_select.specs.declared.choice.Choice.{Choice}
use Rattle.pg_select.specs.declared.choice.Choice.TheVariants.{Hopeless as MadeHopeless, Chosen, Left}
use Rattle.pg_select.specs.declared.pass.Pass.{Pass}
use Rattle.pg_select.specs.Inside.Choices.{choice}
use Rattle.pg_select.specs.Inside.laws.Steps.{IsBelow, IsUpTo, candidate_at, is_candidate, patterns_after_pass, hopeless_after_pass}
use Rattle.pg_select.specs.Inside.laws.ClosedDots.{counted_with, is_good, closed_at_next_length, pass_at, TellCounted, closed_after as dots_after_pass}
use Rattle.pg_select.specs.Inside.engine.Meanings.{with_position}
use Rattle.pg_select.specs.CountedPositions.{Candidate, counted_at, counts_as}
use Rattle.pg_select.specs.Inside.words.PositionLists.{good_of, bad_of, counted_positions}
use Rattle.pg_select.specs.Statuses.{status, status_at}
use Rattle.pg_select.specs.Windows.{Hopeless, window, fits, is_covered}
use Rattle.pg_select.proofs.LawsBounds.{up_to_at_start, up_to_after, covers_up_to_at_start, covers_up_to_longer, covers_up_to_after}
use Rattle.pg_select.proofs.LawsClosedDots.{raised_stop, tells_at_start, tells_longer, tells_after, uncounted_stay}
use Rattle.pg_select.proofs.LawsCounts.{is_counted_window}
use Rattle.pg_select.proofs.LawsRaised.{values_after}
use Rattle.pg_driver.specs.declared.pass_windows.WordPosition.{WordPosition}
use Rattle.pg_driver.specs.Traces.{is_chosen, is_hopeless}
use Rattle.pg_driver.specs.Inside.choices.Fates.{choice_of, chooses, gives_up}
use Rattle.pg_driver.proofs.FateLaws.{chosen_is, hopeless_is}
use Rattle.pg_driver.specs.Inside.counting.OpenSigns.{IsLevelAt, DotsTell, closed_at_sign, closed_by, closed_in, dot_of_no_pass, is_in_reach, is_open_first, sign_count, start_of}
use Rattle.pg_driver.proofs.OpenLevels.{found_is}
use Rattle.pg_driver.proofs.OpenSigns.{place_at, sign_within}

-- closed dots that are equal tell the same
pub tells_same : (level len : ℕ) (P : Patterns) (H : Hopeless) (w : Word) (p : ℕ) (a b : ℕ → Bool) → ((d : ℕ) → d ≤ LENGTH_MAX → a d ≡ b d) → TellCounted level len P H w p a
    → TellCounted level len P H w p b
tells_same level len P H w p a b same tells d within = tells d within ∙ ap (λ c. counted_with level w p len d c) (same d within)

told_same : (level len : ℕ) (m : Alphabet) (P : Patterns) (H : Hopeless) (w : Word) (p : ℕ) (a b : ℕ → Bool) → ((d : ℕ) → d ≤ LENGTH_MAX → a d ≡ b d)
    → DotsTell level len m P H w p a → DotsTell level len m P H w p b
told_same level len m P H w p a b same is = record {
  inside = λ reach. tells_same level len P H w p a b same (is.inside reach);
  outside = λ reach d within. sym (same d within) ∙ is.outside reach d within;
}

pub there_same : (level len : ℕ) (m : Alphabet) (words : List Word) (P : Patterns) (H : Hopeless) (old new : ℕ → ℕ → Bool)
    → ((d s : ℕ) → s < sign_count words → new d s ≡ old d s) → IsLevelAt level len m words P H old → IsLevelAt level len m words P H new
there_same level len m words P H old new same is = record {
  short = is.short;
  upto = is.upto;
  known = λ n p w at low.
      told_same level len m P H w p (λ d. old d (start_of words n + p)) (λ d. new d (start_of words n + p))
      (λ d within. sym (same d (start_of words n + p) (sign_within words n p w at low))) (is.known n p w at low);
  status = λ n p w at low. same dot_of_no_pass (start_of words n + p) (sign_within words n p w at low) ∙ is.status n p w at low;
}

-- a level begins
pub there_first : (level len : ℕ) (m : Alphabet) (words : List Word) (P : Patterns) (closed : ℕ → ℕ → Bool) → IsBelow level P
    → ((d n p : ℕ) (w : Word) → slice_get words n ≡ Some w → p < length w.signs → closed d (start_of words n + p) ≡ not (is_open_first m level P w p)) → IsLevelAt level len m words P [] closed
there_first level len m words P closed below is = record {
  short = covers_up_to_at_start level len P below;
  upto = up_to_at_start level P below;
  known = λ n p w at low. told_same level len m P [] w p (λ d. not (is_open_first m level P w p)) (λ d. closed d (start_of words n + p)) (λ d within. sym (is d n p w at low)) (first w p);
  status = λ n p w at low. is dot_of_no_pass n p w at low;
}
  where
    none : (b : Bool) (o : Option Bool) → o ≡ None → cond b o None ≡ None
    none true o is = is
    none false o is = refl

    by_status : (w : Word) (p : ℕ) (o : Option Bool) → counts_as level (status_at P w p) ≡ o → TellCounted level len P [] w p (λ d. not (is_some o))
    by_status w p None is = λ d within.
        none (fits w.signs p len d && not (is_covered level P [] (window w.signs p len d) d)) (counts_as level (status_at P w p)) is
        ∙ sym (shut (fits w.signs p len d) (Some (is_good level w p)))
      where
        shut : (f : Bool) (o : Option Bool) → cond (f && false) o None ≡ None
        shut true o = refl
        shut false o = refl
    by_status w p (Some good) is = tells_at_start level len P w p good below is

    first : (w : Word) (p : ℕ) → DotsTell level len m P [] w p (λ d. not (is_open_first m level P w p))
    first w p = record {
      inside = λ reach. subst (λ (b : Bool). TellCounted level len P [] w p (λ d. not (b && is_some (counts_as level (status_at P w p))))) (sym reach)
          (by_status w p (counts_as level (status_at P w p)) refl);
      outside = λ reach d within. ap (λ b. not (b && is_some (counts_as level (status_at P w p)))) reach;
    }

-- a level goes on to the next length
pub there_longer : (level len : ℕ) (m : Alphabet) (words : List Word) (P : Patterns) (H : Hopeless) (old new : ℕ → ℕ → Bool)
    → ((d s : ℕ) → d ≤ LENGTH_MAX → s < sign_count words → new d s ≡ (old d s || (nat_le 1 d && old (d - 1) s)))
    → ((s : ℕ) → s < sign_count words → new dot_of_no_pass s ≡ old dot_of_no_pass s) → IsLevelAt level len m words P H old → IsLevelAt level (len + 1) m words P H new
there_longer level len m words P H old new on stays is = record {
  short = covers_up_to_longer level len P H is.short;
  upto = is.upto;
  known = λ n p w at low.
      let before = is.known n p w at low in
      let s = start_of words n + p in
      told_same level (len + 1) m P H w p (closed_at_next_length (λ d. old d s)) (λ d. new d s) (λ d within. sym (on d s within (sign_within words n p w at low))) (record {
        inside = λ reach. tells_longer level len P H w p (λ d. old d s) is.short (before.inside reach);
        outside = λ reach d within. first (old d s) (nat_le 1 d && old (d - 1) s) (before.outside reach d within);
      });
  status = λ n p w at low. stays (start_of words n + p) (sign_within words n p w at low) ∙ is.status n p w at low;
}
  where
    first : (a b : Bool) → a ≡ true → (a || b) ≡ true
    first true b is = refl
    first false b is = absurd (let wrong : false ≡ true = is in cc)

-- a level goes on after a pass
module _ (level : LevelParams) (m : Alphabet) (words : List Word) (pass : Pass) (P : Patterns) (H : Hopeless) (counts : Counts) (low : pass.dot ≤ LENGTH_MAX)
    (counted : counts ≡ fold with_position [] (counted_positions m words pass P H)) where
  abbrev chosen : Candidate → Bool
  chosen c = is_chosen level c

  abbrev made_hopeless : Candidate → Bool
  made_hopeless c = is_hopeless level c

  -- dot by dot, where the window was counted
  by_fate : (closed : ℕ → Bool) (dot d : ℕ) (c : Choice) → (chooses c || (closed d || (nat_eq d dot && gives_up c))) ≡ closed_by closed dot (Some c) d
  by_fate closed dot d Left = none (closed d) (nat_eq d dot)
    where
      none : (a b : Bool) → (a || (b && false)) ≡ a
      none true b = refl
      none false true = refl
      none false false = refl
  by_fate closed dot d Chosen = refl
  by_fate closed dot d MadeHopeless = one (closed d) (nat_eq d dot)
    where
      one : (a b : Bool) → (a || (b && true)) ≡ (a || b)
      one true b = refl
      one false true = refl
      one false false = refl

  -- a dot more that is closed tells the same, where no window with it counts
  tells_shut : (Q : Patterns) (I : Hopeless) (w : Word) (p : ℕ) (closed : ℕ → Bool) → counted_at (pass_at pass.level pass.len pass.dot) Q I w p ≡ None
      → TellCounted pass.level pass.len Q I w p closed → TellCounted pass.level pass.len Q I w p (λ d. closed d || nat_eq d pass.dot)
  tells_shut Q I w p closed none tells d within = elim (cases_eq d pass.dot) [
    | inl same ↦
        ap (λ e. counted_at (pass_at pass.level pass.len e) Q I w p) same ∙ none
        ∙ sym (ap (λ b. counted_with pass.level w p pass.len d (closed d || b)) (eq-eqb d pass.dot same) ∙ shut (closed d) (fits w.signs p pass.len d) (Some (is_good pass.level w p)))
    | inr other ↦
        tells d within ∙ ap (λ b. counted_with pass.level w p pass.len d b) (sym (ap (λ b. closed d || b) (ne_eqb d pass.dot other) ∙ plain (closed d)))
  ]
    where
      shut : (a f : Bool) (o : Option Bool) → cond (f && not (a || true)) o None ≡ None
      shut true true o = refl
      shut true false o = refl
      shut false true o = refl
      shut false false o = refl

      plain : (a : Bool) → (a || false) ≡ a
      plain true = refl
      plain false = refl

  module _ (w : Word) (p : ℕ) (closed : ℕ → Bool) where
    -- where the window fits and the dot was open
    fit_is : (d : ℕ) → ((is_candidate (λ (c : Candidate). is_chosen level c) (counted_positions m words pass P H) (window w.signs p pass.len pass.dot))
        || (closed d || (nat_eq d pass.dot && (is_candidate (λ (c : Candidate). is_hopeless level c) (counted_positions m words pass P H) (window w.signs p pass.len pass.dot)))))
        ≡ option_map_or (λ (sums : ℕ × ℕ). closed_by closed pass.dot (Some (choice level sums.0 sums.1)) d) (counted_sums counts (window w.signs p pass.len pass.dot)) (closed d)
    fit_is d =
        by (is_counted_window (counted_positions m words pass P H) (window w.signs p pass.len pass.dot))
        ∙ sym (ap (λ (o : Option (ℕ × ℕ)). option_map_or (λ (sums : ℕ × ℕ). closed_by closed pass.dot (Some (choice level sums.0 sums.1)) d) o (closed d))
        (ap (λ (cs : Counts). counted_sums cs (window w.signs p pass.len pass.dot)) counted ∙ found_is (counted_positions m words pass P H) (window w.signs p pass.len pass.dot)))
      where
        none : (a b : Bool) → (false || (a || (b && false))) ≡ a
        none true b = refl
        none false true = refl
        none false false = refl

        by : (s : Bool) → ((s && is_chosen level (candidate_at (counted_positions m words pass P H) (window w.signs p pass.len pass.dot)))
            || (closed d || (nat_eq d pass.dot && (s && is_hopeless level (candidate_at (counted_positions m words pass P H) (window w.signs p pass.len pass.dot))))))
            ≡ option_map_or (λ (sums : ℕ × ℕ). closed_by closed pass.dot (Some (choice level sums.0 sums.1)) d)
            (cond s (Some (good_of (counted_positions m words pass P H) (window w.signs p pass.len pass.dot), bad_of (counted_positions m words pass P H) (window w.signs p pass.len pass.dot)))
            None) (closed d)
        by true =
            (λ i. chosen_is level (candidate_at (counted_positions m words pass P H) (window w.signs p pass.len pass.dot)) i
            || (closed d || (nat_eq d pass.dot && hopeless_is level (candidate_at (counted_positions m words pass P H) (window w.signs p pass.len pass.dot)) i)))
            ∙ by_fate closed pass.dot d (choice_of level (candidate_at (counted_positions m words pass P H) (window w.signs p pass.len pass.dot)))
        by false = none (closed d) (nat_eq d pass.dot)

    -- a position in reach
    told_in : IsUpTo pass.level P → TellCounted pass.level pass.len P H w p closed
        → TellCounted pass.level pass.len (patterns_after_pass m words pass P H (λ c. is_chosen level c)) (hopeless_after_pass m words pass P H (λ c. is_hopeless level c)) w p
        (closed_in level pass counts w p closed)
    told_in upto tells = elim (cases_Bool (closed pass.dot)) [
      | inl shut ↦
          tells_same pass.level pass.len (patterns_after_pass m words pass P H (λ c. is_chosen level c)) (hopeless_after_pass m words pass P H (λ c. is_hopeless level c)) w p _
          (closed_in level pass counts w p closed)
          (λ d within. was_shut d shut) after
      | inr free ↦ elim (cases_Bool (fits w.signs p pass.len pass.dot)) [
        | inl fit ↦
            tells_same pass.level pass.len (patterns_after_pass m words pass P H (λ c. is_chosen level c)) (hopeless_after_pass m words pass P H (λ c. is_hopeless level c)) w p _
            (closed_in level pass counts w p closed)
            (λ d within. was_open d free fit) after
        | inr other ↦
            tells_same pass.level pass.len (patterns_after_pass m words pass P H (λ c. is_chosen level c)) (hopeless_after_pass m words pass P H (λ c. is_hopeless level c)) w p
            (λ d. closed d || nat_eq d pass.dot) (closed_in level pass counts w p closed)
            (λ d within. sym (ap (λ b. cond b (closed d) (cond (fits w.signs p pass.len pass.dot) (fitting d) (closed d || nat_eq d pass.dot))) free
            ∙ ap (λ b. cond b (fitting d) (closed d || nat_eq d pass.dot)) other))
            (tells_shut (patterns_after_pass m words pass P H (λ c. is_chosen level c)) (hopeless_after_pass m words pass P H (λ c. is_hopeless level c)) w p closed (unfit other)
            (tells_same pass.level pass.len (patterns_after_pass m words pass P H (λ c. is_chosen level c)) (hopeless_after_pass m words pass P H (λ c. is_hopeless level c)) w p _ closed
            (λ d within. was_other d other) after))
      ]
    ]
      where
        fitting : ℕ → Bool
        fitting d = option_map_or (λ (sums : ℕ × ℕ). closed_by closed pass.dot (Some (choice level sums.0 sums.1)) d) (counted_sums counts (window w.signs p pass.len pass.dot)) (closed d)

        raised : Bool
        raised = is_candidate (λ (c : Candidate). is_chosen level c) (counted_positions m words pass P H) (window w.signs p pass.len pass.dot)

        given_up : Bool
        given_up = is_candidate (λ (c : Candidate). is_hopeless level c) (counted_positions m words pass P H) (window w.signs p pass.len pass.dot)

        after : TellCounted pass.level pass.len (patterns_after_pass m words pass P H (λ c. is_chosen level c)) (hopeless_after_pass m words pass P H (λ c. is_hopeless level c)) w p
            (dots_after_pass closed pass.dot (fits w.signs p pass.len pass.dot)
            (is_candidate (λ (c : Candidate). is_chosen level c) (counted_positions m words pass P H) (window w.signs p pass.len pass.dot))
            (is_candidate (λ (c : Candidate). is_hopeless level c) (counted_positions m words pass P H) (window w.signs p pass.len pass.dot)))
        after = tells_after m words pass P H (λ c. is_chosen level c) (λ c. is_hopeless level c) w p closed upto low tells

        no_test : (f : Bool) (x y : Bool) → cond (f && false) x y ≡ y
        no_test true x y = refl
        no_test false x y = refl

        was_shut : (d : ℕ) → closed pass.dot ≡ true
            → dots_after_pass closed pass.dot (fits w.signs p pass.len pass.dot)
            (is_candidate (λ (c : Candidate). is_chosen level c) (counted_positions m words pass P H) (window w.signs p pass.len pass.dot))
            (is_candidate (λ (c : Candidate). is_hopeless level c) (counted_positions m words pass P H) (window w.signs p pass.len pass.dot)) d ≡ closed_in level pass counts w p closed d
        was_shut d shut =
            ap (λ b. cond (fits w.signs p pass.len pass.dot && not b) (is_candidate (λ (c : Candidate). is_chosen level c) (counted_positions m words pass P H) (window w.signs p pass.len pass.dot)
            || (closed d || (nat_eq d pass.dot && is_candidate (λ (c : Candidate). is_hopeless level c) (counted_positions m words pass P H) (window w.signs p pass.len pass.dot)))) (closed d))
            shut
            ∙ no_test (fits w.signs p pass.len pass.dot) (is_candidate (λ (c : Candidate). is_chosen level c) (counted_positions m words pass P H) (window w.signs p pass.len pass.dot)
            || (closed d || (nat_eq d pass.dot && is_candidate (λ (c : Candidate). is_hopeless level c) (counted_positions m words pass P H) (window w.signs p pass.len pass.dot)))) (closed d)
            ∙ sym (ap (λ b. cond b (closed d) (cond (fits w.signs p pass.len pass.dot)
            (option_map_or (λ (sums : ℕ × ℕ). closed_by closed pass.dot (Some (choice level sums.0 sums.1)) d) (counted_sums counts (window w.signs p pass.len pass.dot)) (closed d))
            (closed d || nat_eq d pass.dot))) shut)

        was_open : (d : ℕ) → closed pass.dot ≡ false → fits w.signs p pass.len pass.dot ≡ true
            → dots_after_pass closed pass.dot (fits w.signs p pass.len pass.dot)
            (is_candidate (λ (c : Candidate). is_chosen level c) (counted_positions m words pass P H) (window w.signs p pass.len pass.dot))
            (is_candidate (λ (c : Candidate). is_hopeless level c) (counted_positions m words pass P H) (window w.signs p pass.len pass.dot)) d ≡ closed_in level pass counts w p closed d
        was_open d free fit =
            (λ i. cond (fit i && not (free i)) (is_candidate (λ (c : Candidate). is_chosen level c) (counted_positions m words pass P H) (window w.signs p pass.len pass.dot)
            || (closed d || (nat_eq d pass.dot && is_candidate (λ (c : Candidate). is_hopeless level c) (counted_positions m words pass P H) (window w.signs p pass.len pass.dot)))) (closed d))
            ∙ fit_is d
            ∙ sym (λ i. cond (free i) (closed d) (cond (fit i) (option_map_or (λ (sums : ℕ × ℕ). closed_by closed pass.dot (Some (choice level sums.0 sums.1)) d)
            (counted_sums counts (window w.signs p pass.len pass.dot)) (closed d)) (closed d || nat_eq d pass.dot)))

        was_other : (d : ℕ) → fits w.signs p pass.len pass.dot ≡ false
            → dots_after_pass closed pass.dot (fits w.signs p pass.len pass.dot)
            (is_candidate (λ (c : Candidate). is_chosen level c) (counted_positions m words pass P H) (window w.signs p pass.len pass.dot))
            (is_candidate (λ (c : Candidate). is_hopeless level c) (counted_positions m words pass P H) (window w.signs p pass.len pass.dot)) d ≡ closed d
        was_other d other =
            ap (λ b. cond (b && not (closed pass.dot)) (is_candidate (λ (c : Candidate). is_chosen level c) (counted_positions m words pass P H) (window w.signs p pass.len pass.dot)
            || (closed d || (nat_eq d pass.dot && is_candidate (λ (c : Candidate). is_hopeless level c) (counted_positions m words pass P H) (window w.signs p pass.len pass.dot)))) (closed d))
            other

        unfit : fits w.signs p pass.len pass.dot ≡ false → counted_at (pass_at pass.level pass.len pass.dot) (patterns_after_pass m words pass P H (λ c. is_chosen level c))
            (hopeless_after_pass m words pass P H (λ c. is_hopeless level c)) w p ≡ None
        unfit other = ap (λ b. cond (b && not (is_covered pass.level (patterns_after_pass m words pass P H (λ c. is_chosen level c))
            (hopeless_after_pass m words pass P H (λ c. is_hopeless level c)) (window w.signs p pass.len pass.dot) pass.dot))
            (counts_as pass.level (status_at (patterns_after_pass m words pass P H (λ c. is_chosen level c)) w p)) None) other

    -- a position by its status
    abbrev after_it : Patterns
    after_it = patterns_after_pass m words pass P H (λ c. is_chosen level c)

    abbrev window_raised : Bool
    window_raised = is_candidate (λ (c : Candidate). is_chosen level c) (counted_positions m words pass P H) (window w.signs p pass.len pass.dot)

    abbrev not_counting : Option Bool → Bool
    not_counting o = not (is_in_reach m w p && is_some o)

    -- where its window is not raised its status stays, and where it is it does not count any more
    status_stays : (fits w.signs p pass.len pass.dot && window_raised) ≡ false → status_at after_it w p ≡ status_at P w p
    status_stays unraised =
        ap (λ (v : ℕ). status (slice_index_or w.hyphens p false) (slice_index_or w.cares p true) v)
        (values_after m words pass P H (λ c. is_chosen level c) w.signs p ∙ ap (λ b. max (cond b pass.level 0) (value_at P w.signs p)) unraised ∙ zero (value_at P w.signs p))
      where
        zero : (n : ℕ) → max 0 n ≡ n
        zero n = omega arith

    counts_still : (fits w.signs p pass.len pass.dot && window_raised) ≡ false
        → not_counting (counts_as pass.level (status_at P w p)) ≡ not_counting (counts_as pass.level (status_at after_it w p))
    counts_still unraised = ap (λ (k : Mark). not_counting (counts_as pass.level k)) (sym (status_stays unraised))

    counts_no_more : IsUpTo pass.level P → fits w.signs p pass.len pass.dot ≡ true → window_raised ≡ true → true ≡ not_counting (counts_as pass.level (status_at after_it w p))
    counts_no_more upto fit is =
        sym (ap not_counting (raised_stop m words pass P H (λ c. is_chosen level c) w p upto fit is) ∙ none (is_in_reach m w p))
      where
        none : (b : Bool) → not (b && false) ≡ true
        none true = refl
        none false = refl

    -- one that did not count does not count after the pass
    none_still : IsUpTo pass.level P → counts_as pass.level (status_at P w p) ≡ None → counts_as pass.level (status_at after_it w p) ≡ None
    none_still upto is = by (fits w.signs p pass.len pass.dot) window_raised refl refl
      where
        by : (f r : Bool) → fits w.signs p pass.len pass.dot ≡ f → window_raised ≡ r → counts_as pass.level (status_at after_it w p) ≡ None
        by true true fit raised = raised_stop m words pass P H (λ c. is_chosen level c) w p upto fit raised
        by true false fit raised = ap (counts_as pass.level) (status_stays (λ i. fit i && raised i)) ∙ is
        by false r fit raised = ap (counts_as pass.level) (status_stays (ap (λ b. b && window_raised) fit)) ∙ is

    -- one at which the dot was closed counts as before
    shut_still : IsUpTo pass.level P → DotsTell pass.level pass.len m P H w p closed → closed pass.dot ≡ true
        → not_counting (counts_as pass.level (status_at P w p)) ≡ not_counting (counts_as pass.level (status_at after_it w p))
    shut_still upto told shut = elim (cases_Bool (is_in_reach m w p)) [
      | inl reach ↦ by_counts (counts_as pass.level (status_at P w p)) reach refl
      | inr out ↦ ap (λ b. not (b && is_some (counts_as pass.level (status_at P w p)))) out ∙ sym (ap (λ b. not (b && is_some (counts_as pass.level (status_at after_it w p)))) out)
    ]
      where
        no_test : (f : Bool) (o : Option Bool) → cond (f && false) o None ≡ None
        no_test true o = refl
        no_test false o = refl

        uncounted : is_in_reach m w p ≡ true → counted_at pass P H w p ≡ None
        uncounted reach =
            told.inside reach pass.dot low
            ∙ ap (λ b. cond (fits w.signs p pass.len pass.dot && not b) (Some (is_good pass.level w p)) None) shut
            ∙ no_test (fits w.signs p pass.len pass.dot) (Some (is_good pass.level w p))

        by_counts : (o : Option Bool) → is_in_reach m w p ≡ true → counts_as pass.level (status_at P w p) ≡ o
            → not_counting (counts_as pass.level (status_at P w p)) ≡ not_counting (counts_as pass.level (status_at after_it w p))
        by_counts None reach is = ap not_counting (is ∙ sym (none_still upto is))
        by_counts (Some good) reach is =
            ap (λ (k : Mark). not_counting (counts_as pass.level k))
            (sym (uncounted_stay m words pass P H (λ c. is_chosen level c) (λ c. is_hopeless level c) w p good is (uncounted reach)).status)

    status_after : IsUpTo pass.level P → DotsTell pass.level pass.len m P H w p closed → closed dot_of_no_pass ≡ not_counting (counts_as pass.level (status_at P w p))
        → closed_in level pass counts w p closed dot_of_no_pass ≡ not_counting (counts_as pass.level (status_at after_it w p))
    status_after upto told before = elim (cases_Bool (closed pass.dot)) [
      | inl shut ↦ ap (λ b. cond b (closed dot_of_no_pass) (cond (fits w.signs p pass.len pass.dot) fitting (closed dot_of_no_pass || nat_eq dot_of_no_pass pass.dot))) shut ∙ before
          ∙ shut_still upto told shut
      | inr free ↦
          ap (λ b. cond b (closed dot_of_no_pass) (cond (fits w.signs p pass.len pass.dot) fitting (closed dot_of_no_pass || nat_eq dot_of_no_pass pass.dot))) free
          ∙ elim (cases_Bool (fits w.signs p pass.len pass.dot)) [
            | inl fit ↦
                ap (λ b. cond b fitting (closed dot_of_no_pass || nat_eq dot_of_no_pass pass.dot)) fit
                ∙ sym (fit_is dot_of_no_pass)
                ∙ ap (λ b. window_raised || (closed dot_of_no_pass || (b && given_up_there))) other_dot
                ∙ by_raised window_raised fit refl
            | inr unfit ↦
                ap (λ b. cond b fitting (closed dot_of_no_pass || nat_eq dot_of_no_pass pass.dot)) unfit
                ∙ ap (λ b. closed dot_of_no_pass || b) other_dot
                ∙ plain (closed dot_of_no_pass)
                ∙ before
                ∙ counts_still (ap (λ b. b && window_raised) unfit)
          ]
    ]
      where
        fitting : Bool
        fitting =
            option_map_or (λ (sums : ℕ × ℕ). closed_by closed pass.dot (Some (choice level sums.0 sums.1)) dot_of_no_pass)
            (counted_sums counts (window w.signs p pass.len pass.dot)) (closed dot_of_no_pass)

        given_up_there : Bool
        given_up_there = is_candidate (λ (c : Candidate). is_hopeless level c) (counted_positions m words pass P H) (window w.signs p pass.len pass.dot)

        other_dot : nat_eq dot_of_no_pass pass.dot ≡ false
        other_dot = ne_eqb dot_of_no_pass pass.dot (λ same. omega arith)

        plain : (a : Bool) → (a || false) ≡ a
        plain true = refl
        plain false = refl

        by_raised : (r : Bool) → fits w.signs p pass.len pass.dot ≡ true → window_raised ≡ r
            → (window_raised || (closed dot_of_no_pass || (false && given_up_there))) ≡ not_counting (counts_as pass.level (status_at after_it w p))
        by_raised true fit is = ap (λ b. b || (closed dot_of_no_pass || (false && given_up_there))) is ∙ counts_no_more upto fit is
        by_raised false fit is =
            ap (λ b. b || (closed dot_of_no_pass || (false && given_up_there))) is
            ∙ plain (closed dot_of_no_pass)
            ∙ before
            ∙ counts_still (λ i. fit i && is i)

  -- each position
  pub there_after : (old new : ℕ → ℕ → Bool) → ((d s : ℕ) → s < sign_count words → new d s ≡ closed_at_sign level pass counts words old d s)
      → IsLevelAt pass.level pass.len m words P H old → IsLevelAt pass.level pass.len m words (patterns_after_pass m words pass P H (λ c. is_chosen level c))
      (hopeless_after_pass m words pass P H (λ c. is_hopeless level c)) new
  there_after old new on is = record {
    short = covers_up_to_after m words pass P H chosen made_hopeless is.short;
    upto = up_to_after m words pass P H chosen pass.level (omega arith) is.upto;
    known = λ n p w at lies. each n p w at lies (is.known n p w at lies);
    status = λ n p w at lies.
        on dot_of_no_pass (start_of words n + p) (sign_within words n p w at lies)
        ∙ here n p w at lies dot_of_no_pass
        ∙ status_after w p (λ c. old c (start_of words n + p)) is.upto (is.known n p w at lies) (is.status n p w at lies);
  }
    where
      here : (n p : ℕ) (w : Word) → slice_get words n ≡ Some w → p < length w.signs → (d : ℕ) → closed_at_sign level pass counts words old d (start_of words n + p)
          ≡ closed_in level pass counts w p (λ c. old c (start_of words n + p)) d
      here n p w at lies d =
          let number : 0 + n ≡ n = omega arith in
          ap (λ (e : WordPosition). option_map_or (λ (u : Word). closed_in level pass counts u e.at (λ c. old c (start_of words n + p)) d) (slice_get words e.word) (old d (start_of words n + p)))
          (place_at 0 words n p w at lies)
          ∙ ap (λ (o : Option Word). option_map_or (λ (u : Word). closed_in level pass counts u p (λ c. old c (start_of words n + p)) d) o (old d (start_of words n + p)))
          (ap (slice_get words) number ∙ at)

      each : (n p : ℕ) (w : Word) → slice_get words n ≡ Some w → p < length w.signs → DotsTell pass.level pass.len m P H w p (λ d. old d (start_of words n + p))
          → DotsTell pass.level pass.len m (patterns_after_pass m words pass P H (λ c. is_chosen level c)) (hopeless_after_pass m words pass P H (λ c. is_hopeless level c)) w p
          (λ d. new d (start_of words n + p))
      each n p w at lies before =
          told_same pass.level pass.len m (patterns_after_pass m words pass P H (λ c. is_chosen level c)) (hopeless_after_pass m words pass P H (λ c. is_hopeless level c)) w p
          (closed_in level pass counts w p (λ c. old c (start_of words n + p))) (λ d. new d (start_of words n + p))
          (λ d within. sym (on d (start_of words n + p) (sign_within words n p w at lies) ∙ here n p w at lies d))
          (record {
            inside = λ reach. told_in w p (λ c. old c (start_of words n + p)) is.upto (before.inside reach);
            outside = λ reach d within. ap (λ b. cond b (old d (start_of words n + p))
                (cond (fits w.signs p pass.len pass.dot) (option_map_or (λ (sums : ℕ × ℕ). closed_by (λ c. old c (start_of words n + p)) pass.dot (Some (choice level sums.0 sums.1)) d)
                (counted_sums counts (window w.signs p pass.len pass.dot)) (old d (start_of words n + p))) (old d (start_of words n + p) || nat_eq d pass.dot))) (before.outside reach pass.dot low)
                ∙ before.outside reach d within;
          })
