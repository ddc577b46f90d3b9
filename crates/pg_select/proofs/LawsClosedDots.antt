-- Closed dots tell what counts, from the start of a level through its passes and lengths.
use Rattle.std.proofs.Common.{◌≡◌, ℕ, ◌+◌, ◌-◌, ◌≤◌, nat_le, nat_eq, Bool, true, false, cond, not, ◌&&◌, ◌||◌, ⊎_elim, List, [], ◌∷◌, length, Option, Some, None, max, refl, sym, ap, ◌∙◌, arith}
use Rattle.std.specs.List.{list_all, filter, slice_index_or}
use Rattle.std.proofs.lemmas.Bool.{and_parts, and_from, leb-true, eqb-true, cases_Bool, and_left}
use Rattle.pg_types.specs.declared.limits.TheConstants.{LENGTH_MAX}
use Rattle.pg_types.specs.declared.marks.Mark.{Mark}
use Rattle.pg_types.specs.declared.marks.Mark.TheVariants.{Nothing, Error, Missed, Found, DontCare}
use Rattle.pg_translate.specs.Alphabets.{Alphabet}
use Rattle.pg_dict.specs.Word.{Word}
use Rattle.pg_patterns.specs.Values.{Patterns, applies, greatest_value, value_at}
use Rattle.pg_patterns.proofs.Joins.{only}
use Rattle.pg_select.specs.Inside.laws.Laws.{IsLater}
use Rattle.pg_select.specs.Statuses.{is_odd, status, status_at}
use Rattle.pg_select.specs.Windows.{Hopeless, window, fits, is_covered}
use Rattle.pg_select.specs.declared.pass.Pass.{Pass}
use Rattle.pg_select.specs.CountedPositions.{Candidate, counts_as, counted_at}
use Rattle.pg_select.specs.Inside.words.PositionLists.{counted_positions, with_sums}
use Rattle.pg_select.proofs.LawsLater.{none_at_level, counted_back}
use Rattle.pg_select.proofs.LawsNothing.{later_after_pass}
use Rattle.pg_select.proofs.LawsCounts.{is_counted_window}
use Rattle.pg_select.specs.Inside.laws.Steps.{CoversUpTo, IsBelow, IsUpTo, candidate_at, is_candidate, patterns_after_pass, hopeless_after_pass}
use Rattle.pg_select.specs.Inside.laws.ClosedDots.{closed_at_next_length, is_good, pass_at, TellCounted, closed_after, Stays}
use Rattle.pg_select.proofs.LawsLengths.{length_step, nothing_covered, fits_parts, fits_from}
use Rattle.pg_select.proofs.LawsRaised.{counted_uncovered, values_after, covers_after}

-- what counts, by whether the level is odd
abbrev pub counted_by : Bool → Mark → Option Bool
counted_by odd Missed = cond odd (Some true) None
counted_by odd Nothing = cond odd (Some false) None
counted_by odd Error = cond odd None (Some true)
counted_by odd Found = cond odd None (Some false)
counted_by odd DontCare = None

pub counts_by : (level : ℕ) (mark : Mark) → counts_as level mark ≡ counted_by (is_odd level) mark
counts_by level Missed = refl
counts_by level Nothing = refl
counts_by level Error = refl
counts_by level Found = refl
counts_by level DontCare = refl

good_by : (l v hyphen care good : Bool) → counted_by l (cond care (cond hyphen (cond v Found Missed) (cond v Error Nothing)) DontCare) ≡ Some good → good ≡ cond l hyphen (not hyphen)
good_by l v hyphen false good is = cc
good_by true true true true good is = cc
good_by false true true true good is = cc
good_by true false true true good is = cc
good_by false false true true good is = cc
good_by true true false true good is = cc
good_by false true false true good is = cc
good_by true false false true good is = cc
good_by false false false true good is = cc

-- a position that counts counts as its hyphen says
pub good_is : (level : ℕ) (P : Patterns) (w : Word) (p : ℕ) (good : Bool) → counts_as level (status_at P w p) ≡ Some good → good ≡ is_good level w p
good_is level P w p good is = good_by (is_odd level) (is_odd (value_at P w.signs p)) (slice_index_or w.hyphens p false) (slice_index_or w.cares p true) good
    (sym (counts_by level (status_at P w p)) ∙ is)

none_either : (t : Bool) (o : Option Bool) → o ≡ None → cond t o None ≡ None
none_either true o is = is
none_either false o is = refl

pub none_from : (o : Option Bool) → ((g : Bool) → o ≡ Some g → ⊥) → o ≡ None
none_from None never = refl
none_from (Some g) never = absurd (never g refl)

pub none_some : (o : Option Bool) (g : Bool) → o ≡ None → o ≡ Some g → ⊥
none_some o g none some = cc

-- at a level's start
pub tells_at_start : (level len : ℕ) (P : Patterns) (w : Word) (p : ℕ) (good : Bool) → IsBelow level P → counts_as level (status_at P w p) ≡ Some good → TellCounted level len P [] w p (λ _. false)
tells_at_start level len P w p good below is d within =
    (λ i. cond (fits w.signs p len d && not (nothing_covered level P (window w.signs p len d) d below i)) (is i) None)
    ∙ ap (λ g. cond (fits w.signs p len d && true) (Some g) None) (good_is level P w p good is)

-- at the next length
opened : (f c x : Bool) (o : Option Bool) (g : Bool) → f ≡ true → cond (f && not c) o None ≡ cond (f && not x) (Some g) None → cond (not c) o None ≡ cond (not x) (Some g) None
opened true c x o g fit is = is
opened false c x o g fit is = cc

longer_step : (c x b e y : Bool) (o : Option Bool) (g : Bool) → cond (not c) o None ≡ cond (not x) (Some g) None → (b ≡ true → cond (not e) o None ≡ cond (not y) (Some g) None)
    → cond (not (c || (b && e))) o None ≡ cond (not (x || (b && y))) (Some g) None
longer_step true true b e y o g here before = refl
longer_step true false b e y o g here before = cc
longer_step false true b e y o g here before = none_either (not (b && e)) o here
longer_step false false false e y o g here before = here
longer_step false false true e y o g here before = before refl

fits_behind : (w : List ℕ) (p len d : ℕ) → fits w p (len + 1) d ≡ true → fits w p len d ≡ true
fits_behind w p len d fit = let sizes : (d ≤ p) × (p - d + (len + 1) ≤ length w) = fits_parts w p (len + 1) d fit in fits_from w p len d sizes.0 (omega arith)

fits_before : (w : List ℕ) (p len d : ℕ) → 1 ≤ d → fits w p (len + 1) d ≡ true → fits w p len (d - 1) ≡ true
fits_before w p len d one fit = let sizes : (d ≤ p) × (p - d + (len + 1) ≤ length w) = fits_parts w p (len + 1) d fit in fits_from w p len (d - 1) (omega arith) (omega arith)

pub tells_longer : (level len : ℕ) (P : Patterns) (H : Hopeless) (w : Word) (p : ℕ) (closed : ℕ → Bool) → CoversUpTo level len P H → TellCounted level len P H w p closed
    → TellCounted level (len + 1) P H w p (closed_at_next_length closed)
tells_longer level len P H w p closed short tells d within = by_fit (fits w.signs p (len + 1) d) refl
  where
    by_fit : (f : Bool) → fits w.signs p (len + 1) d ≡ f → cond (f && not (is_covered level P H (window w.signs p (len + 1) d) d)) (counts_as level (status_at P w p)) None
        ≡ cond (f && not (closed_at_next_length closed d)) (Some (is_good level w p)) None
    by_fit false fit = refl
    by_fit true fit =
        ap (λ b. cond (not b) (counts_as level (status_at P w p)) None) (length_step level len P H w.signs p d short fit)
        ∙ longer_step (is_covered level P H (window w.signs p len d) d) (closed d) (nat_le 1 d) (is_covered level P H (window w.signs p len (d - 1)) (d - 1))
        (closed (d - 1)) (counts_as level (status_at P w p)) (is_good level w p)
        (opened (fits w.signs p len d) (is_covered level P H (window w.signs p len d) d) (closed d) (counts_as level (status_at P w p)) (is_good level w p)
        (fits_behind w.signs p len d fit) (tells d within))
        (λ one. opened (fits w.signs p len (d - 1)) (is_covered level P H (window w.signs p len (d - 1)) (d - 1)) (closed (d - 1)) (counts_as level (status_at P w p))
        (is_good level w p) (fits_before w.signs p len d (leb-true 1 d one) fit) (tells (d - 1) (omega arith)))

pub best_up_to : (level : ℕ) (t : List ℕ × ℕ → Bool) (P : Patterns) → IsUpTo level P → greatest_value t P ≤ level
best_up_to level t [] upto = omega arith
best_up_to level t (e ∷ es) upto =
    let parts = and_parts (nat_le e.1 level) (list_all (λ (x : (List ℕ × ℕ) × ℕ). nat_le x.1 level) es) upto in
    let here : e.1 ≤ level = leb-true e.1 level parts.0 in
    let rest : greatest_value t es ≤ level = best_up_to level t es parts.1 in
    let one : only (t e.0) e.1 ≤ level = at_most (t e.0) e.1 here in
    omega arith
  where
    at_most : (b : Bool) (n : ℕ) → n ≤ level → only b n ≤ level
    at_most true n low = low
    at_most false n low = omega arith

-- the value of a position whose window was raised is the level, so it does not count
pub raised_stop : (m : Alphabet) (words : List Word) (pass : Pass) (P : Patterns) (H : Hopeless) (raised : Candidate → Bool) (w : Word) (p : ℕ)
    → IsUpTo pass.level P → fits w.signs p pass.len pass.dot ≡ true → is_candidate raised (counted_positions m words pass P H) (window w.signs p pass.len pass.dot) ≡ true
    → counts_as pass.level (status_at (patterns_after_pass m words pass P H raised) w p) ≡ None
raised_stop m words pass P H raised w p upto fit is =
    let low : value_at P w.signs p ≤ pass.level = best_up_to pass.level (applies w.signs p) P upto in
    let highest : max pass.level (value_at P w.signs p) ≡ pass.level = omega arith in
    ap (λ (v : ℕ). counts_as pass.level (status (slice_index_or w.hyphens p false) (slice_index_or w.cares p true) v))
    (values_after m words pass P H raised w.signs p
    ∙ ap (λ b. max (cond b pass.level 0) (value_at P w.signs p)) (and_from (fits w.signs p pass.len pass.dot)
    (is_candidate raised (counted_positions m words pass P H) (window w.signs p pass.len pass.dot)) fit is)
    ∙ highest)
    ∙ none_at_level (slice_index_or w.hyphens p false) (slice_index_or w.cares p true) pass.level

status_same : (m : Alphabet) (words : List Word) (pass : Pass) (P : Patterns) (H : Hopeless) (raised : Candidate → Bool) (w : Word) (p : ℕ)
    → (fits w.signs p pass.len pass.dot && is_candidate raised (counted_positions m words pass P H) (window w.signs p pass.len pass.dot)) ≡ false
    → status_at (patterns_after_pass m words pass P H raised) w p ≡ status_at P w p
status_same m words pass P H raised w p none =
    ap (λ (v : ℕ). status (slice_index_or w.hyphens p false) (slice_index_or w.cares p true) v)
    (values_after m words pass P H raised w.signs p ∙ ap (λ b. max (cond b pass.level 0) (value_at P w.signs p)) none ∙ zero (value_at P w.signs p))
  where
    zero : (n : ℕ) → max 0 n ≡ n
    zero n = omega arith

module _ (m : Alphabet) (words : List Word) (pass : Pass) (P : Patterns) (H : Hopeless) (raised hopeless : Candidate → Bool) (w : Word) (p : ℕ) where
  later : IsLater pass.level P H (patterns_after_pass m words pass P H raised) (hopeless_after_pass m words pass P H hopeless)
  later = later_after_pass pass.level pass.dot P H (filter raised (with_sums (counted_positions m words pass P H))) (filter hopeless (with_sums (counted_positions m words pass P H)))

  -- what keeps status and covers: nothing that was decided applies here
  stays_from : (fits w.signs p pass.len pass.dot && is_candidate raised (counted_positions m words pass P H) (window w.signs p pass.len pass.dot)) ≡ false
      → ((d : ℕ) → fits w.signs p pass.len d ≡ true → (nat_eq d pass.dot
      && (is_candidate raised (counted_positions m words pass P H) (window w.signs p pass.len pass.dot)
      || is_candidate hopeless (counted_positions m words pass P H) (window w.signs p pass.len pass.dot))) ≡ false)
      → Stays pass.level pass.len P H (patterns_after_pass m words pass P H raised) (hopeless_after_pass m words pass P H hopeless) w p
  stays_from unraised others = record {
    status = status_same m words pass P H raised w p unraised;
    covers = λ d fit. covers_after m words pass P H raised hopeless w.signs p d fit ∙ ap (λ b. b || is_covered pass.level P H (window w.signs p pass.len d) d) (others d fit);
  }

  pub left_stay : is_candidate raised (counted_positions m words pass P H) (window w.signs p pass.len pass.dot) ≡ false
      → is_candidate hopeless (counted_positions m words pass P H) (window w.signs p pass.len pass.dot) ≡ false
      → Stays pass.level pass.len P H (patterns_after_pass m words pass P H raised) (hopeless_after_pass m words pass P H hopeless) w p
  left_stay unraised hoped =
      stays_from (ap (λ b. fits w.signs p pass.len pass.dot && b) unraised ∙ none (fits w.signs p pass.len pass.dot))
      (λ d fit. (λ i. nat_eq d pass.dot && (unraised i || hoped i)) ∙ none (nat_eq d pass.dot))
    where
      none : (b : Bool) → (b && false) ≡ false
      none true = refl
      none false = refl

  -- a window that does not fit here is decided without the position
  unfit_stay : fits w.signs p pass.len pass.dot ≡ false → Stays pass.level pass.len P H (patterns_after_pass m words pass P H raised) (hopeless_after_pass m words pass P H hopeless) w p
  unfit_stay unfit =
      stays_from (ap (λ b. b && is_candidate raised (counted_positions m words pass P H) (window w.signs p pass.len pass.dot)) unfit)
      (λ d fit. other (nat_eq d pass.dot) (is_candidate raised (counted_positions m words pass P H) (window w.signs p pass.len pass.dot)
      || is_candidate hopeless (counted_positions m words pass P H) (window w.signs p pass.len pass.dot))
      (λ same. clash d (ap (λ x. fits w.signs p pass.len x) (eqb-true d pass.dot same)) fit))
    where
      other : (a b : Bool) → (a ≡ true → ⊥) → (a && b) ≡ false
      other true b never = absurd (never refl)
      other false b never = refl

      clash : (d : ℕ) → fits w.signs p pass.len d ≡ fits w.signs p pass.len pass.dot → fits w.signs p pass.len d ≡ true → ⊥
      clash d same fit = cc (unfit, same, fit)

  -- a window that is covered is not counted, so that it is not decided
  unseen : (test : Candidate → Bool) → is_covered pass.level P H (window w.signs p pass.len pass.dot) pass.dot ≡ true
      → is_candidate test (counted_positions m words pass P H) (window w.signs p pass.len pass.dot) ≡ false
  unseen test is =
      and_left (is_counted_window (counted_positions m words pass P H) (window w.signs p pass.len pass.dot))
      (test (candidate_at (counted_positions m words pass P H) (window w.signs p pass.len pass.dot)))
      (⊎_elim
      (λ (counted : is_counted_window (counted_positions m words pass P H) (window w.signs p pass.len pass.dot) ≡ true). absurd
      (clash (counted_uncovered m words pass P H (window w.signs p pass.len pass.dot) counted).1 is))
      (λ (not_seen : is_counted_window (counted_positions m words pass P H) (window w.signs p pass.len pass.dot) ≡ false). not_seen)
      (cases_Bool (is_counted_window (counted_positions m words pass P H) (window w.signs p pass.len pass.dot))))
    where
      clash : {b : Bool} → b ≡ false → b ≡ true → ⊥
      clash off on = cc (off, on)

  covered_stay : is_covered pass.level P H (window w.signs p pass.len pass.dot) pass.dot ≡ true
      → Stays pass.level pass.len P H (patterns_after_pass m words pass P H raised) (hopeless_after_pass m words pass P H hopeless) w p
  covered_stay is = left_stay (unseen raised is) (unseen hopeless is)

  pub uncounted_stay : (good : Bool) → counts_as pass.level (status_at P w p) ≡ Some good → counted_at pass P H w p ≡ None
      → Stays pass.level pass.len P H (patterns_after_pass m words pass P H raised) (hopeless_after_pass m words pass P H hopeless) w p
  uncounted_stay good counts none = by_tests (fits w.signs p pass.len pass.dot) (is_covered pass.level P H (window w.signs p pass.len pass.dot) pass.dot) refl refl none
    where
      by_tests : (f c : Bool) → fits w.signs p pass.len pass.dot ≡ f → is_covered pass.level P H (window w.signs p pass.len pass.dot) pass.dot ≡ c
          → cond (f && not c) (counts_as pass.level (status_at P w p)) None ≡ None
          → Stays pass.level pass.len P H (patterns_after_pass m words pass P H raised) (hopeless_after_pass m words pass P H hopeless) w p
      by_tests false c fit cover is = unfit_stay fit
      by_tests true true fit cover is = covered_stay cover
      by_tests true false fit cover is = absurd (none_some (counts_as pass.level (status_at P w p)) good is counts)

  -- what counts where status and covers stay
  tells_stay : (closed : ℕ → Bool) → Stays pass.level pass.len P H (patterns_after_pass m words pass P H raised) (hopeless_after_pass m words pass P H hopeless) w p
      → TellCounted pass.level pass.len P H w p closed
      → TellCounted pass.level pass.len (patterns_after_pass m words pass P H raised) (hopeless_after_pass m words pass P H hopeless) w p closed
  tells_stay closed stays tells d within = by_fit (fits w.signs p pass.len d) refl (tells d within)
    where
      by_fit : (f : Bool) → fits w.signs p pass.len d ≡ f → cond (f && not (is_covered pass.level P H (window w.signs p pass.len d) d)) (counts_as pass.level (status_at P w p)) None
          ≡ cond (f && not (closed d)) (Some (is_good pass.level w p)) None
          → cond (f && not (is_covered pass.level (patterns_after_pass m words pass P H raised) (hopeless_after_pass m words pass P H hopeless) (window w.signs p pass.len d) d))
          (counts_as pass.level (status_at (patterns_after_pass m words pass P H raised) w p)) None ≡ cond (f && not (closed d)) (Some (is_good pass.level w p)) None
      by_fit false fit is = refl
      by_fit true fit is = (λ i. cond (not (stays.covers d fit i)) (counts_as pass.level (stays.status i)) None) ∙ is

  -- what counts after a pass
  pub tells_after : (closed : ℕ → Bool) → IsUpTo pass.level P → pass.dot ≤ LENGTH_MAX → TellCounted pass.level pass.len P H w p closed
      → TellCounted pass.level pass.len (patterns_after_pass m words pass P H raised) (hopeless_after_pass m words pass P H hopeless) w p
      (closed_after closed pass.dot (fits w.signs p pass.len pass.dot) (is_candidate raised (counted_positions m words pass P H) (window w.signs p pass.len pass.dot))
      (is_candidate hopeless (counted_positions m words pass P H) (window w.signs p pass.len pass.dot)))
  tells_after closed upto low tells = by_tests (fits w.signs p pass.len pass.dot) (closed pass.dot)
      (is_candidate raised (counted_positions m words pass P H) (window w.signs p pass.len pass.dot)) refl refl refl
    where
      -- where the position does not count by its status, before and so after
      by_status : counts_as pass.level (status_at P w p) ≡ None
          → TellCounted pass.level pass.len (patterns_after_pass m words pass P H raised) (hopeless_after_pass m words pass P H hopeless) w p closed
      by_status none d within =
          none_from (counted_at (pass_at pass.level pass.len d) (patterns_after_pass m words pass P H raised) (hopeless_after_pass m words pass P H hopeless) w p)
          (λ g counts. none_some (counted_at (pass_at pass.level pass.len d) P H w p) g
          (none_either (fits w.signs p pass.len d && not (is_covered pass.level P H (window w.signs p pass.len d) d)) (counts_as pass.level (status_at P w p)) none)
          (counted_back (pass_at pass.level pass.len d) P (patterns_after_pass m words pass P H raised) H (hopeless_after_pass m words pass P H hopeless) w p g
          later counts))
          ∙ sym (none_either (fits w.signs p pass.len d && not (is_covered pass.level P H (window w.signs p pass.len d) d)) (counts_as pass.level (status_at P w p)) none)
          ∙ tells d within

      -- where the position was not counted
      uncounted : (f x : Bool) → fits w.signs p pass.len pass.dot ≡ f → closed pass.dot ≡ x → (f && not x) ≡ false
          → TellCounted pass.level pass.len (patterns_after_pass m words pass P H raised) (hopeless_after_pass m words pass P H hopeless) w p closed
      uncounted f x fit shut passed = by_count (counts_as pass.level (status_at P w p)) refl
        where
          by_count : (o : Option Bool) → counts_as pass.level (status_at P w p) ≡ o
              → TellCounted pass.level pass.len (patterns_after_pass m words pass P H raised) (hopeless_after_pass m words pass P H hopeless) w p closed
          by_count None is = by_status is
          by_count (Some good) is =
              tells_stay closed (uncounted_stay good is (tells pass.dot low ∙ (λ i. cond (fit i && not (shut i)) (Some (is_good pass.level w p)) None)
              ∙ ap (λ b. cond b (Some (is_good pass.level w p)) None) passed)) tells

      -- where it was counted, and its window not raised
      counted_left : is_candidate raised (counted_positions m words pass P H) (window w.signs p pass.len pass.dot) ≡ false
          → TellCounted pass.level pass.len (patterns_after_pass m words pass P H raised) (hopeless_after_pass m words pass P H hopeless) w p
          (λ d. closed d || (nat_eq d pass.dot && is_candidate hopeless (counted_positions m words pass P H) (window w.signs p pass.len pass.dot)))
      counted_left unraised d within = by_fit (fits w.signs p pass.len d) refl (tells d within)
        where
          none : (b : Bool) → (b && false) ≡ false
          none true = refl
          none false = refl

          both : (t c x : Bool) (o : Option Bool) (g : Bool) → cond (not c) o None ≡ cond (not x) (Some g) None → cond (not (t || c)) o None ≡ cond (not (x || t)) (Some g) None
          both true c true o g is = refl
          both true c false o g is = refl
          both false c true o g is = is
          both false c false o g is = is

          by_fit : (f : Bool) → fits w.signs p pass.len d ≡ f → cond (f && not (is_covered pass.level P H (window w.signs p pass.len d) d)) (counts_as pass.level (status_at P w p)) None
              ≡ cond (f && not (closed d)) (Some (is_good pass.level w p)) None
              → cond (f && not (is_covered pass.level (patterns_after_pass m words pass P H raised) (hopeless_after_pass m words pass P H hopeless) (window w.signs p pass.len d) d))
              (counts_as pass.level (status_at (patterns_after_pass m words pass P H raised) w p)) None
              ≡ cond (f && not (closed d || (nat_eq d pass.dot && is_candidate hopeless (counted_positions m words pass P H) (window w.signs p pass.len pass.dot))))
              (Some (is_good pass.level w p)) None
          by_fit false fit is = refl
          by_fit true fit is =
              (λ i. cond (not (covers_after m words pass P H raised hopeless w.signs p d fit i))
              (counts_as pass.level (status_same m words pass P H raised w p (ap (λ b. fits w.signs p pass.len pass.dot && b) unraised ∙ none (fits w.signs p pass.len pass.dot)) i)) None)
              ∙ ap (λ b. cond (not ((nat_eq d pass.dot && (b || is_candidate hopeless (counted_positions m words pass P H) (window w.signs p pass.len pass.dot)))
              || is_covered pass.level P H (window w.signs p pass.len d) d)) (counts_as pass.level (status_at P w p)) None) unraised
              ∙ both (nat_eq d pass.dot && is_candidate hopeless (counted_positions m words pass P H) (window w.signs p pass.len pass.dot))
              (is_covered pass.level P H (window w.signs p pass.len d) d) (closed d) (counts_as pass.level (status_at P w p)) (is_good pass.level w p) is

      by_tests : (f x r : Bool) → fits w.signs p pass.len pass.dot ≡ f → closed pass.dot ≡ x → is_candidate raised (counted_positions m words pass P H) (window w.signs p pass.len pass.dot) ≡ r
          → TellCounted pass.level pass.len (patterns_after_pass m words pass P H raised) (hopeless_after_pass m words pass P H hopeless) w p
          (λ d. cond (f && not x) (r || (closed d || (nat_eq d pass.dot && is_candidate hopeless (counted_positions m words pass P H) (window w.signs p pass.len pass.dot)))) (closed d))
      by_tests false x r fit shut is = uncounted false x fit shut refl
      by_tests true true r fit shut is = uncounted true true fit shut refl
      by_tests true false false fit shut is = counted_left is
      by_tests true false true fit shut is = λ d within.
          none_either (fits w.signs p pass.len d && not (is_covered pass.level (patterns_after_pass m words pass P H raised) (hopeless_after_pass m words pass P H hopeless)
          (window w.signs p pass.len d) d)) (counts_as pass.level (status_at (patterns_after_pass m words pass P H raised) w p)) (raised_stop m words pass P H raised w p upto fit is)
          ∙ shut_all (fits w.signs p pass.len d)
        where
          shut_all : (f : Bool) → None ≡ cond (f && not true) (Some (is_good pass.level w p)) None
          shut_all true = refl
          shut_all false = refl
