-- The open positions from a level's start through its passes and lengths.
use Rattle.std.proofs.Common.{◌≡◌, ℕ, suc, ◌+◌, Bool, true, false, cond, List, [], ◌∷◌, ◌++◌, length, map, fold, slice_get, Option, Some, None, refl, sym, ap, ◌∙◌, arith}
use Rattle.std.specs.List.{flat_map}
use Rattle.std.specs.Option.{option_map_or}
use Rattle.std.specs.FinMap.Entries.{find}
use Rattle.std.proofs.lemmas.List.Concat.{flat_map-append}
use Rattle.pg_translate.specs.Alphabets.{Alphabet}
use Rattle.pg_translate.specs.Reach.{positions}
use Rattle.pg_dict.specs.Word.{Word}
use Rattle.pg_select.specs.Inside.engine.Meanings.{with_position}
use Rattle.pg_select.specs.Inside.words.PositionLists.{CountedPosition, good_of, bad_of}
use Rattle.pg_select.proofs.LawsCounts.{cmp, is_counted_window, sums_found}
use Rattle.pg_driver.specs.Inside.counting.OpenPositions.{numbered_positions, open_with}
use Rattle.pg_driver.specs.Inside.counting.OpenLevels.{listed_from, open_as}

-- the listed positions of words, as entries of their positions
module _ (m : Alphabet) (words : List Word) (counts : Word → ℕ → Option Bool) where
  -- whether a position of a word is listed, where there is such a word
  abbrev start_in : ℕ → Option Word → Option Bool
  start_in p None = None
  start_in p (Some w) = counts w p

  abbrev pub start_at : ℕ → ℕ → Option Bool
  start_at n p = start_in p (slice_get words n)

  start_word : (n : ℕ) (w : Word) → slice_get words n ≡ Some w → (ps : List ℕ) → flat_map (λ p. open_as n p (counts w p)) ps ≡ flat_map (open_with start_at) (map (λ p. (n, p)) ps)
  start_word n w at [] = refl
  start_word n w at (p ∷ ps) =
      λ i. ap (λ (o : Option Word). option_map_or (λ (good : Bool). record { word = n; at = p } ∷ []) (start_in p o) []) (sym at) i ++ start_word n w at ps i

  start_words : (n : ℕ) (ws : List Word) → ((k : ℕ) (w : Word) → slice_get ws k ≡ Some w → slice_get words (n + k) ≡ Some w) → listed_from m counts n ws
      ≡ flat_map (open_with start_at) (numbered_positions m n ws)
  start_words n [] place = refl
  start_words n (w ∷ ws) place =
      let here : slice_get words n ≡ Some w = ap (slice_get words) (plus_zero n) ∙ place 0 w refl in
      (λ i. start_word n w here (positions m.left m.right (length w.signs)) i ++ start_words (n + 1) ws (λ k v at. ap (slice_get words) (plus_one n k) ∙ place (suc k) v at) i)
      ∙ sym (flat_map-append (open_with start_at) (map (λ p. (n, p)) (positions m.left m.right (length w.signs))) (numbered_positions m (n + 1) ws))
    where
      plus_zero : (n : ℕ) → n ≡ n + 0
      plus_zero n = omega arith

      plus_one : (n k : ℕ) → n + 1 + k ≡ n + suc k
      plus_one n k = omega arith

  pub listed_are : listed_from m counts 0 words ≡ flat_map (open_with start_at) (numbered_positions m 0 words)
  listed_are = start_words 0 words (λ k w at. ap (slice_get words) (zero_plus k) ∙ at)
    where
      zero_plus : (k : ℕ) → 0 + k ≡ k
      zero_plus k = omega arith

pub found_is : (seen : List CountedPosition) (u : List ℕ) → find cmp u (fold with_position [] seen) ≡ cond (is_counted_window seen u) (Some (good_of seen u, bad_of seen u)) None
found_is seen u = sums_found u [] seen ∙ plain (is_counted_window seen u) (good_of seen u) (bad_of seen u)
  where
    zero_plus : (n : ℕ) → 0 + n ≡ n
    zero_plus n = omega arith

    plain : (b : Bool) (g h : ℕ) → cond b (Some (0 + g, 0 + h)) None ≡ cond {A = Option (ℕ × ℕ)} b (Some (g, h)) None
    plain true g h = λ i. Some (zero_plus g i, zero_plus h i)
    plain false g h = refl
