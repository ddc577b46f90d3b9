-- The positions whose value is above the level: their weights, one position after the other.
use Rattle.std.proofs.Common.{◌≡◌, ℕ, ◌+◌, ◌<◌, List, [], ◌∷◌, length, drop, get_or, sym, ap, ◌∙◌, arith}
use Rattle.std.specs.List.{flat_map, sum_by}
use Rattle.std.proofs.lemmas.List.{drop_more}
use Rattle.std.proofs.lemmas.List.Sums.{sum_by-append}
use Rattle.pg_types.specs.declared.parameters.LevelParams.{LevelParams}
use Rattle.pg_types.specs.Inside.counting.Counts.{Counts}
use Rattle.pg_dict.specs.Word.{Word}
use Rattle.pg_select.specs.declared.pass.Pass.{Pass}
use Rattle.pg_select.specs.Inside.words.PositionLists.{CountedPosition}
use Rattle.pg_driver.specs.declared.counting.above_positions.ChosenWeights.{ChosenWeights}
use Rattle.pg_driver.specs.declared.pass_windows.WordPosition.{WordPosition}
use Rattle.pg_driver.specs.Inside.counting.OpenPositions.{counted_of}
use Rattle.pg_driver.specs.Inside.counting.WordLevels.{bad_weight_chosen, good_weight_chosen, chosen_weights, with_chosen}

module _ (params : LevelParams) (pass : Pass) (counts : Counts) (words : List Word) where
  sum_more : (weigh : CountedPosition → ℕ) (k n whole : ℕ) (e : WordPosition) (es : List WordPosition) → n ≡ k + sum_by weigh (flat_map (counted_of pass words) (e ∷ []))
      → k + sum_by weigh (flat_map (counted_of pass words) (e ∷ es)) ≡ whole → n + sum_by weigh (flat_map (counted_of pass words) es) ≡ whole
  sum_more weigh k n whole e es is left = omega (arith, sum_by-append weigh (counted_of pass words e) [], sum_by-append weigh (counted_of pass words e) (flat_map (counted_of pass words) es))

  -- a position more, and then the rest
  pub kept_step : (k l whole : ChosenWeights) (entries : List WordPosition) (i : ℕ) (d : WordPosition) → i < length entries
      → l ≡ with_chosen k (chosen_weights params pass counts words (get_or entries i d ∷ []))
      → with_chosen k (chosen_weights params pass counts words (drop i entries)) ≡ whole → with_chosen l (chosen_weights params pass counts words (drop (i + 1) entries)) ≡ whole
  kept_step k l whole entries i d within is left =
      let rest : with_chosen k (chosen_weights params pass counts words (get_or entries i d ∷ drop (i + 1) entries))
      ≡ whole = ap (λ (es : List WordPosition). with_chosen k (chosen_weights params pass counts words es)) (sym (drop_more entries i d within)) ∙ left in
      let good : l.good + sum_by (good_weight_chosen params counts) (flat_map (counted_of pass words) (drop (i + 1) entries))
      ≡ whole.good = sum_more (good_weight_chosen params counts) k.good l.good whole.good (get_or entries i d) (drop (i + 1) entries)
      (ap (λ (x : ChosenWeights). x.good) is) (ap (λ (x : ChosenWeights). x.good) rest) in
      let bad : l.bad + sum_by (bad_weight_chosen params counts) (flat_map (counted_of pass words) (drop (i + 1) entries))
      ≡ whole.bad = sum_more (bad_weight_chosen params counts) k.bad l.bad whole.bad (get_or entries i d) (drop (i + 1) entries)
      (ap (λ (x : ChosenWeights). x.bad) is) (ap (λ (x : ChosenWeights). x.bad) rest) in
      λ j. record { good = good j; bad = bad j }
