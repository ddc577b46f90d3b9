-- The numbers of the windows at the positions whose value is above the level.
use Rattle.std.proofs.Common.{◌≡◌, ℕ, ◌+◌, ◌≤◌, ◌<◌, Bool, true, false, cond, not, ◌&&◌, nat_lt, List, [], ◌∷◌, ◌++◌, length, fold, append-nil, slice_get, get_or, is_some, Option, Some, None, inl, inr, ◌⊎◌, refl, sym, ap, subst, ◌∙◌, arith}
use Rattle.std.specs.List.{flat_map, slice_index_or, sum_by}
use Rattle.std.proofs.lemmas.List.Sums.{sum_by-cons}
use Rattle.std.specs.Option.{option_map_or}
use Rattle.std.proofs.lemmas.Bool.{and_parts}
use Rattle.std.proofs.lemmas.Option.{slice_get_past}
use Rattle.pg_types.specs.declared.parameters.LevelParams.{LevelParams}
use Rattle.pg_types.specs.Inside.counting.Counts.{Counts, counted_sums, is_counted}
use Rattle.pg_types.specs.Inside.counting.NumberedWindows.{Windows, HasNumber}
use Rattle.pg_translate.specs.Alphabets.{Alphabet}
use Rattle.pg_dict.specs.Word.{Word}
use Rattle.pg_select.specs.declared.choice.Choice.{Choice}
use Rattle.pg_select.specs.declared.pass.Pass.{Pass}
use Rattle.pg_select.specs.Inside.Choices.{choice}
use Rattle.pg_select.specs.CountedPositions.{counted_at, counts_as}
use Rattle.pg_select.specs.Inside.words.PositionLists.{CountedPosition, good_of, bad_of, counted_positions}
use Rattle.pg_select.specs.Inside.laws.AboveLevel.{counts_above}
use Rattle.pg_select.specs.Inside.laws.ClosedDots.{is_good}
use Rattle.pg_select.specs.Inside.engine.Meanings.{Meaning, with_position}
use Rattle.pg_select.specs.Inside.words.Positions.{Positions}
use Rattle.pg_types.specs.declared.marks.Mark.{Mark}
use Rattle.pg_select.specs.Statuses.{position_weight, status, status_at}
use Rattle.pg_select.specs.Windows.{Hopeless, is_covered, fits, window}
use Rattle.pg_patterns.specs.Values.{Patterns, value_at}
use Rattle.pg_select.proofs.LawsRaised.{counted_uncovered}
use Rattle.pg_select.proofs.LawsCounts.{is_counted_window}
use Rattle.pg_driver.specs.declared.counting.above_positions.ChosenWeights.{ChosenWeights}
use Rattle.pg_driver.specs.declared.pass_windows.WordPosition.{WordPosition}
use Rattle.pg_driver.specs.declared.pass_windows.TheConstants.{NO_NUMBER}
use Rattle.pg_driver.specs.Inside.counting.Counting.{IsRead}
use Rattle.pg_driver.specs.Inside.counting.OpenLevels.{open_as}
use Rattle.pg_driver.specs.Inside.counting.OpenPositions.{counted_in, counted_of}
use Rattle.pg_driver.specs.Inside.level.PassWindows.{AreFates, GetsNumber, HaveNumbers, IsNumbered, fate_of_sums, is_counted_at, uncovered_at}
use Rattle.pg_driver.specs.Inside.choices.Fates.{chooses}
use Rattle.pg_driver.specs.Inside.counting.WordLevels.{bad_weight_chosen, good_weight_chosen, chosen_weights, was_chosen, with_chosen}
use Rattle.pg_driver.proofs.NumberSteps.{have_more}
use Rattle.pg_driver.proofs.OpenLevels.{found_is}

-- a position of a level that counts by its status has its number
pub numbered_by : (pass : Pass) (P : Patterns) (H : Hopeless) (words : List Word) (ws : Windows) (w : Word) (word p n : ℕ) → slice_get words word ≡ Some w
    → is_some (counts_as pass.level (status_at P w p)) ≡ true
    → GetsNumber (counted_at pass P H w p) ws (window w.signs p pass.len pass.dot) n → IsNumbered pass (uncovered_at pass P H) words ws (record { word = word; at = p }) n
numbered_by pass P H words ws w word p n at counts gets = record {
  counted = λ v to is. (
      let both : Some v ≡ Some w = sym to ∙ at in
      let same : v ≡ w = cc in
      subst (λ (x : Word). HasNumber ws (window x.signs p pass.len pass.dot) n) (sym same)
      (by_true (counts_as pass.level (status_at P w p)) _ (ap (λ (x : Word). test x) (sym same) ∙ is) counts gets));
  uncounted = λ v to is. inl (
      let both : Some v ≡ Some w = sym to ∙ at in
      let same : v ≡ w = cc in
      by_false (counts_as pass.level (status_at P w p)) _ (ap (λ (x : Word). test x) (sym same) ∙ is) gets);
}
  where
    test : Word → Bool
    test x = fits x.signs p pass.len pass.dot && not (is_covered pass.level P H (window x.signs p pass.len pass.dot) pass.dot)

    by_true : (o : Option Bool) (b : Bool) → b ≡ true → is_some o ≡ true → GetsNumber (cond b o None) ws (window w.signs p pass.len pass.dot) n → HasNumber ws (window w.signs p pass.len pass.dot) n
    by_true None b is some gets = absurd (let wrong : false ≡ true = some in cc)
    by_true (Some good) true is some gets = gets
    by_true (Some good) false is some gets = absurd (let wrong : false ≡ true = is in cc)

    by_false : (o : Option Bool) (b : Bool) → b ≡ false → GetsNumber (cond b o None) ws (window w.signs p pass.len pass.dot) n → n ≡ NO_NUMBER
    by_false o true is gets = absurd (let wrong : true ≡ false = is in cc)
    by_false o false is gets = gets

-- a position that counts above the level counts by its status
above_counts : (level value : ℕ) (o : Option Bool) → is_some (cond (nat_lt level value) o None) ≡ true → is_some o ≡ true
above_counts level value o is = by (nat_lt level value) is
  where
    by : (b : Bool) → is_some (cond b o None) ≡ true → is_some o ≡ true
    by true some = some
    by false some = absurd (let wrong : false ≡ true = some in cc)

-- the test that the code makes
abbrev pub is_some_above : ℕ → Positions → ℕ → Option Bool → Bool
is_some_above level found p good = is_some (cond (nat_lt level (get_or found.values p 0)) good None)

-- the test by what was found of the word
pub above_found : (m : Meaning) (w : Word) (found : Positions) (level p : ℕ) (mark : Mark) → IsRead m w found → p < length w.signs → mark
    ≡ status (slice_index_or w.hyphens p false) (slice_index_or w.cares p true) (get_or found.values p 0)
    → is_some (cond (nat_lt level (get_or found.values p 0)) (counts_as level mark) None) ≡ is_some (counts_above level m.patterns w p)
above_found m w found level p mark read within is =
    let value : get_or found.values p 0 ≡ value_at m.patterns w.signs p = read.values p within in
    let same : mark ≡ status_at m.patterns w p = is ∙ ap (status (slice_index_or w.hyphens p false) (slice_index_or w.cares p true)) value in
    λ i. is_some (cond (nat_lt level (value i)) (counts_as level (same i)) None)

-- the numbers after a position
pub number_noted : (pass : Pass) (P : Patterns) (H : Hopeless) (words : List Word) (ws : Windows) (entries : List WordPosition)
    (ns more : List ℕ) (w : Word) (word p number : ℕ)
    → slice_get words word ≡ Some w → GetsNumber (counted_at pass P H w p) ws (window w.signs p pass.len pass.dot) number
    → more ≡ cond (is_some (counts_above pass.level P w p)) (ns ++ number ∷ []) ns
    → HaveNumbers pass (uncovered_at pass P H) words ws entries ns
    → HaveNumbers pass (uncovered_at pass P H) words ws (entries ++ open_as word p (counts_above pass.level P w p)) more
number_noted pass P H words ws entries ns more w word p number at gets noted have =
    subst (HaveNumbers pass (uncovered_at pass P H) words ws (entries ++ open_as word p (counts_above pass.level P w p))) (sym noted)
    (by (counts_above pass.level P w p) (above_counts pass.level (value_at P w.signs p) (counts_as pass.level (status_at P w p))))
  where
    by : (o : Option Bool) → (is_some o ≡ true → is_some (counts_as pass.level (status_at P w p)) ≡ true)
        → HaveNumbers pass (uncovered_at pass P H) words ws (entries ++ open_as word p o) (cond (is_some o) (ns ++ number ∷ []) ns)
    by None counts = subst (λ (es : List WordPosition). HaveNumbers pass (uncovered_at pass P H) words ws es ns) (sym (append-nil entries)) have
    by (Some good) counts =
        have_more pass (uncovered_at pass P H) words ws entries ns (record { word = word; at = p }) number have
        (numbered_by pass P H words ws w word p number at (counts refl) gets)

-- once a pass is counted, what is not covered is what is counted
covered_not_counted : (m : Alphabet) (words : List Word) (pass : Pass) (P : Patterns) (H : Hopeless) (counts : Counts) (u : List ℕ) → counts
    ≡ fold with_position [] (counted_positions m words pass P H) → is_covered pass.level P H u pass.dot ≡ true → is_counted counts u ≡ false
covered_not_counted m words pass P H counts u are is =
    ap (λ (cs : Counts). is_counted cs u) are
    ∙ ap is_some (found_is (counted_positions m words pass P H) u)
    ∙ by (is_counted_window (counted_positions m words pass P H) u) (λ counted. sym is ∙ (counted_uncovered m words pass P H u counted).1)
  where
    by : (b : Bool) → (b ≡ true → true ≡ false) → is_some {T = ℕ × ℕ} (cond b (Some (good_of (counted_positions m words pass P H) u, bad_of (counted_positions m words pass P H) u)) None) ≡ false
    by true wrong = absurd (let clash : true ≡ false = wrong refl in cc)
    by false wrong = refl

module _ (pass : Pass) (P : Patterns) (H : Hopeless) (words : List Word) (counts : Counts) (ws : Windows)
    (uncounted : (u : List ℕ) → is_covered pass.level P H u pass.dot ≡ true → is_counted counts u ≡ false) (e : WordPosition) (n : ℕ) (is : IsNumbered pass (uncovered_at pass P H) words ws e n) where
  is_uncovered : (w : Word) (f c : Bool) → (f && is_counted counts (window w.signs e.at pass.len pass.dot)) ≡ true
      → (c ≡ true → is_counted counts (window w.signs e.at pass.len pass.dot) ≡ false) → (f && not c) ≡ true
  is_uncovered w false c have lack = absurd (let wrong : false ≡ true = have in cc)
  is_uncovered w true true have lack = absurd (let wrong : false ≡ true = sym (lack refl) ∙ have in cc)
  is_uncovered w true false have lack = refl

  not_counted : (w : Word) → slice_get words e.word ≡ Some w → (b : Bool) → uncovered_at pass P H w e ≡ b
      → (n ≡ NO_NUMBER) ⊎ ((fits w.signs e.at pass.len pass.dot ≡ true) × HasNumber ws (window w.signs e.at pass.len pass.dot) n)
  not_counted w at false free = is.uncounted w at free
  not_counted w at true free = inr (
    (and_parts (fits w.signs e.at pass.len pass.dot) (not (is_covered pass.level P H (window w.signs e.at pass.len pass.dot) pass.dot)) free).0,
    is.counted w at free,
  )

  as_counted : IsNumbered pass (is_counted_at pass counts) words ws e n
  as_counted = record {
    counted = λ w at have. is.counted w at (is_uncovered w (fits w.signs e.at pass.len pass.dot) (is_covered pass.level P H (window w.signs e.at pass.len pass.dot) pass.dot) have
        (uncounted (window w.signs e.at pass.len pass.dot)));
    uncounted = λ w at lack. not_counted w at (uncovered_at pass P H w e) refl;
  }

pub numbered_as_counted : (m : Alphabet) (words : List Word) (pass : Pass) (P : Patterns) (H : Hopeless) (counts : Counts) (ws : Windows) (entries : List WordPosition) (ns : List ℕ)
    → counts ≡ fold with_position [] (counted_positions m words pass P H)
    → HaveNumbers pass (uncovered_at pass P H) words ws entries ns → HaveNumbers pass (is_counted_at pass counts) words ws entries ns
numbered_as_counted m words pass P H counts ws entries ns counted have = record {
  size = have.size;
  each = λ k e n at to. as_counted pass P H words counts ws (λ u hidden. covered_not_counted m words pass P H counts u counted hidden) e n (have.each k e n at to);
}

-- a listed position was chosen where its number says so
pub chosen_by_number : (params : LevelParams) (counts : Counts) (ws : Windows) (fates : List Choice) → AreFates params counts ws fates → length fates ≤ NO_NUMBER
    → (pass : Pass) (words : List Word) (e : WordPosition) (n : ℕ) (w : Word) → slice_get words e.word ≡ Some w → IsNumbered pass (is_counted_at pass counts) words ws e n
    → option_map_or chooses (slice_get fates n) false ≡ (fits w.signs e.at pass.len pass.dot && was_chosen params counts (window w.signs e.at pass.len pass.dot))
chosen_by_number params counts ws fates decided few pass words e n w at is = by (is_counted_at pass counts w e) refl
  where
    u : List ℕ
    u = window w.signs e.at pass.len pass.dot

    by_fate : (o : Option (ℕ × ℕ)) → chooses (fate_of_sums params o) ≡ option_map_or (λ (sums : ℕ × ℕ). chooses (choice params sums.0 sums.1)) o false
    by_fate None = refl
    by_fate (Some sums) = refl

    none : (o : Option (ℕ × ℕ)) (f : Bool) → (f && is_some o) ≡ false → false ≡ (f && option_map_or (λ (sums : ℕ × ℕ). chooses (choice params sums.0 sums.1)) o false)
    none o false is = refl
    none None true is = refl
    none (Some sums) true is = absurd (let wrong : true ≡ false = is in cc)

    by_number : HasNumber ws (window w.signs e.at pass.len pass.dot) n → fits w.signs e.at pass.len pass.dot ≡ true
        → option_map_or chooses (slice_get fates n) false ≡ (fits w.signs e.at pass.len pass.dot && was_chosen params counts (window w.signs e.at pass.len pass.dot))
    by_number has fit =
        ap (λ (o : Option Choice). option_map_or chooses o false) (decided.each (window w.signs e.at pass.len pass.dot) n has)
        ∙ by_fate (counted_sums counts (window w.signs e.at pass.len pass.dot))
        ∙ ap (λ (f : Bool). f && was_chosen params counts (window w.signs e.at pass.len pass.dot)) (sym fit)

    by : (b : Bool) → is_counted_at pass counts w e ≡ b → option_map_or chooses (slice_get fates n) false
        ≡ (fits w.signs e.at pass.len pass.dot && was_chosen params counts (window w.signs e.at pass.len pass.dot))
    by true have =
        let parts = and_parts (fits w.signs e.at pass.len pass.dot) (is_counted counts (window w.signs e.at pass.len pass.dot)) have in
        by_number (is.counted w at have) parts.0
    by false lack = elim (is.uncounted w at lack) [
      | inl unset ↦
          ap (λ (o : Option Choice). option_map_or chooses o false) (slice_get_past fates n (omega arith))
          ∙ none (counted_sums counts (window w.signs e.at pass.len pass.dot)) (fits w.signs e.at pass.len pass.dot) lack
      | inr has ↦ by_number has.1 has.0
    ]

-- the weights with those of a position more
module _ (params : LevelParams) (pass : Pass) (counts : Counts) (words : List Word) where
  module _ (e : WordPosition) (w : Word) (at : slice_get words e.word ≡ Some w) where
    abbrev here : CountedPosition
    here = record { window = window w.signs e.at pass.len pass.dot; good = is_good pass.level w e.at; weight = position_weight w e.at }

    one : (weigh : CountedPosition → ℕ) → sum_by weigh (flat_map (counted_of pass words) (e ∷ [])) ≡ cond (fits w.signs e.at pass.len pass.dot) (weigh here) 0
    one weigh =
        ap (λ (o : Option Word). sum_by weigh (option_map_or (λ (u : Word). counted_in pass u e.at) o [] ++ [])) at
        ∙ by (fits w.signs e.at pass.len pass.dot)
      where
        by : (f : Bool) → sum_by weigh (option_map_or (λ (good : Bool). record { window = window w.signs e.at pass.len pass.dot; good = good; weight = position_weight w e.at } ∷ [])
            (cond (f && true) (Some (is_good pass.level w e.at)) None) [] ++ []) ≡ cond f (weigh here) 0
        by true = omega (arith, sum_by-cons weigh here [])
        by false = refl

    tests : (f c g : Bool) (n : ℕ) → cond f (cond (g && c) n 0) 0 ≡ cond ((f && c) && g) n 0
    tests false c g n = refl
    tests true true true n = refl
    tests true true false n = refl
    tests true false true n = refl
    tests true false false n = refl

    pub kept_more : (kept result : ChosenWeights) (chosen good : Bool) (weight : ℕ) → chosen ≡ (fits w.signs e.at pass.len pass.dot && was_chosen params counts (window w.signs e.at pass.len pass.dot))
        → good ≡ is_good pass.level w e.at → weight ≡ position_weight w e.at
        → result.good ≡ kept.good + cond (chosen && good) weight 0 → result.bad ≡ kept.bad + cond (chosen && not good) weight 0
        → result ≡ with_chosen kept (chosen_weights params pass counts words (e ∷ []))
    kept_more kept result chosen good weight is good_is weight_is good_more bad_more =
        let f : Bool = fits w.signs e.at pass.len pass.dot in
        let c : Bool = was_chosen params counts (window w.signs e.at pass.len pass.dot) in
        let goods : result.good ≡ kept.good + sum_by (good_weight_chosen params counts) (flat_map (counted_of pass words) (e ∷ [])) =
        good_more ∙ ap (λ (n : ℕ). kept.good + n) ((λ i. cond (is i && good_is i) (weight_is i) 0) ∙ sym (tests f c (is_good pass.level w e.at) (position_weight w e.at))
        ∙ sym (one (good_weight_chosen params counts))) in
        let bads : result.bad ≡ kept.bad + sum_by (bad_weight_chosen params counts) (flat_map (counted_of pass words) (e ∷ [])) =
        bad_more ∙ ap (λ (n : ℕ). kept.bad + n) ((λ i. cond (is i && not (good_is i)) (weight_is i) 0) ∙ sym (tests f c (not (is_good pass.level w e.at)) (position_weight w e.at))
        ∙ sym (one (bad_weight_chosen params counts))) in
        λ i. record { good = goods i; bad = bads i }

  -- with those of none
  pub kept_none : (kept : ChosenWeights) → kept ≡ with_chosen kept (chosen_weights params pass counts words [])
  kept_none kept =
      let good : kept.good ≡ kept.good + 0 = omega arith in
      let bad : kept.bad ≡ kept.bad + 0 = omega arith in
      λ i. record { good = good i; bad = bad i }
