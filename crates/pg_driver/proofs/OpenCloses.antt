-- Dots close at the open signs by the numbers of their windows.
use Rattle.std.proofs.Common.{◌≡◌, ℕ, Bool, true, false, cond, ◌||◌, nat_eq, List, slice_get, Option, Some, None, inl, inr, refl, sym, ap, ◌∙◌}
use Rattle.std.specs.Option.{option_map_or}
use Rattle.std.proofs.lemmas.Bool.{cases_Bool}
use Rattle.pg_types.specs.declared.parameters.LevelParams.{LevelParams}
use Rattle.pg_types.specs.Inside.counting.Counts.{Counts, counted_sums}
use Rattle.pg_types.specs.Inside.counting.NumberedWindows.{Windows}
use Rattle.pg_dict.specs.Word.{Word}
use Rattle.pg_select.specs.declared.choice.Choice.{Choice}
use Rattle.pg_select.specs.declared.pass.Pass.{Pass}
use Rattle.pg_select.specs.Inside.Choices.{choice}
use Rattle.pg_select.specs.Windows.{window, fits}
use Rattle.pg_driver.specs.declared.pass_windows.WordPosition.{WordPosition}
use Rattle.pg_driver.specs.Inside.counting.OpenSigns.{ClosesBy, HasFate, closed_at_sign, closed_by, closed_in, position_from}
use Rattle.pg_driver.specs.Inside.level.PassWindows.{AreFates, fate_of_sums}
use Rattle.pg_driver.proofs.OpenSigns.{place_of, sign_of}

module _ (params : LevelParams) (counts : Counts) (ws : Windows) (fates : List Choice) (decided : AreFates params counts ws fates) (pass : Pass) (words : List Word) (old : ℕ → ℕ → Bool) where
  -- at a position of a word
  closes_at : (s : ℕ) (fate : Option Choice) (w : Word) → slice_get words (position_from 0 words s).word ≡ Some w → old pass.dot s ≡ false → HasFate pass words ws fates s fate → (d : ℕ)
      → closed_by (λ c. old c s) pass.dot fate d ≡ closed_in params pass counts w (position_from 0 words s).at (λ c. old c s) d
  closes_at s fate w there free has d = elim (cases_Bool (fits w.signs (position_from 0 words s).at pass.len pass.dot)) [
    | inl fit ↦
        let k = has.inside w there fit in
        ap (λ (o : Option Choice). closed_by (λ c. old c s) pass.dot o d) (k.2 ∙ decided.each (window w.signs (position_from 0 words s).at pass.len pass.dot) k.0 k.1)
        ∙ by_sums (counted_sums counts (window w.signs (position_from 0 words s).at pass.len pass.dot))
        ∙ sym (ap (λ b. cond b (old d s) (cond (fits w.signs (position_from 0 words s).at pass.len pass.dot) (fitting (counted_sums counts (window w.signs (position_from 0 words s).at pass.len pass.dot))) (old d s || nat_eq d pass.dot))) free
        ∙ ap (λ b. cond b (fitting (counted_sums counts (window w.signs (position_from 0 words s).at pass.len pass.dot))) (old d s || nat_eq d pass.dot)) fit)
    | inr other ↦
        ap (λ (o : Option Choice). closed_by (λ c. old c s) pass.dot o d) (has.outside w there other)
        ∙ sym (ap (λ b. cond b (old d s) (cond (fits w.signs (position_from 0 words s).at pass.len pass.dot) (fitting (counted_sums counts (window w.signs (position_from 0 words s).at pass.len pass.dot))) (old d s || nat_eq d pass.dot))) free
        ∙ ap (λ b. cond b (fitting (counted_sums counts (window w.signs (position_from 0 words s).at pass.len pass.dot))) (old d s || nat_eq d pass.dot)) other)
  ]
    where
      fitting : Option (ℕ × ℕ) → Bool
      fitting o = option_map_or (λ (sums : ℕ × ℕ). closed_by (λ c. old c s) pass.dot (Some (choice params sums.0 sums.1)) d) o (old d s)

      by_sums : (o : Option (ℕ × ℕ)) → closed_by (λ c. old c s) pass.dot (Some (fate_of_sums params o)) d
          ≡ option_map_or (λ (sums : ℕ × ℕ). closed_by (λ c. old c s) pass.dot (Some (choice params sums.0 sums.1)) d) o (old d s)
      by_sums None = refl
      by_sums (Some sums) = refl

  pub closes_signs : ClosesBy (closed_at_sign params pass counts words old) pass words ws fates old
  closes_signs = record {
    stays = λ s shut d. by_word s d shut (slice_get words (position_from 0 words s).word);
    closes = λ s low free fate has d.
        let of = sign_of words s low in
        let there : slice_get words (position_from 0 words s).word ≡ Some of.word = ap (λ (e : WordPosition). slice_get words e.word) (place_of words s of) ∙ of.there in
        closes_at s fate of.word there free has d
        ∙ sym (ap (λ (o : Option Word). option_map_or (λ (w : Word). closed_in params pass counts w (position_from 0 words s).at (λ c. old c s) d) o (old d s)) there);
  }
    where
      by_word : (s d : ℕ) → old pass.dot s ≡ true → (o : Option Word) → option_map_or (λ (w : Word). closed_in params pass counts w (position_from 0 words s).at (λ c. old c s) d) o (old d s) ≡ old d s
      by_word s d shut None = refl
      by_word s d shut (Some w) =
          ap (λ b. cond b (old d s) (cond (fits w.signs (position_from 0 words s).at pass.len pass.dot)
          (option_map_or (λ (sums : ℕ × ℕ). closed_by (λ c. old c s) pass.dot (Some (choice params sums.0 sums.1)) d)
          (counted_sums counts (window w.signs (position_from 0 words s).at pass.len pass.dot)) (old d s)) (old d s || nat_eq d pass.dot))) shut
