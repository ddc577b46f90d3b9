-- What a pass counts at the open positions, and how they go on.
use Rattle.std.proofs.Common.{◌≡◌, ℕ, suc, ◌+◌, Bool, List, [], ◌∷◌, ◌++◌, length, map, slice_get, Option, Some, refl, sym, ap, ◌∙◌, arith}
use Rattle.std.specs.List.{flat_map}
use Rattle.std.proofs.lemmas.List.Concat.{flat_map-append}
use Rattle.pg_translate.specs.Alphabets.{Alphabet}
use Rattle.pg_translate.specs.Reach.{positions}
use Rattle.pg_dict.specs.Word.{Word}
use Rattle.pg_select.specs.Inside.words.PositionLists.{CountedPosition}
use Rattle.pg_driver.specs.declared.pass_windows.WordPosition.{WordPosition}
use Rattle.pg_driver.specs.Inside.counting.OpenPositions.{numbered_positions, open_with}

-- what is counted at the positions of words, by the entries that stand for them
module _ (m : Alphabet) (words : List Word) (listed : ℕ → ℕ → Option Bool) (at_entry : WordPosition → List CountedPosition) (at_position : Word → ℕ → List CountedPosition)
    (each : (n p : ℕ) (w : Word) → slice_get words n ≡ Some w → at_position w p ≡ flat_map at_entry (open_with listed (n, p))) where
  counted_word : (n : ℕ) (w : Word) → slice_get words n ≡ Some w → (ps : List ℕ) → flat_map (at_position w) ps ≡ flat_map at_entry (flat_map (open_with listed) (map (λ p. (n, p)) ps))
  counted_word n w at [] = refl
  counted_word n w at (p ∷ ps) =
      (λ i. each n p w at i ++ counted_word n w at ps i)
      ∙ sym (flat_map-append at_entry (open_with listed (n, p)) (flat_map (open_with listed) (map (λ p. (n, p)) ps)))

  abbrev in_reach : Word → List CountedPosition
  in_reach w = flat_map (at_position w) (positions m.left m.right (length w.signs))

  counted_words : (n : ℕ) (ws : List Word) → ((k : ℕ) (w : Word) → slice_get ws k ≡ Some w → slice_get words (n + k) ≡ Some w) → flat_map in_reach ws
      ≡ flat_map at_entry (flat_map (open_with listed) (numbered_positions m n ws))
  counted_words n [] place = refl
  counted_words n (w ∷ ws) place =
      let here : slice_get words n ≡ Some w = ap (slice_get words) (plus_zero n) ∙ place 0 w refl in
      (λ i. counted_word n w here (positions m.left m.right (length w.signs)) i ++ counted_words (n + 1) ws (λ k v at. ap (slice_get words) (plus_one n k) ∙ place (suc k) v at) i)
      ∙ sym (flat_map-append at_entry (flat_map (open_with listed) (map (λ p. (n, p)) (positions m.left m.right (length w.signs)))) (flat_map (open_with listed) (numbered_positions m (n + 1) ws)))
      ∙ ap (flat_map at_entry) (sym (flat_map-append (open_with listed) (map (λ p. (n, p)) (positions m.left m.right (length w.signs))) (numbered_positions m (n + 1) ws)))
    where
      plus_zero : (n : ℕ) → n ≡ n + 0
      plus_zero n = omega arith

      plus_one : (n k : ℕ) → n + 1 + k ≡ n + suc k
      plus_one n k = omega arith

  pub counted_by_entries : (entries : List WordPosition) → entries ≡ flat_map (open_with listed) (numbered_positions m 0 words) → flat_map in_reach words ≡ flat_map at_entry entries
  counted_by_entries entries are = counted_words 0 words (λ k w at. ap (slice_get words) (zero_plus k) ∙ at) ∙ ap (flat_map at_entry) (sym are)
    where
      zero_plus : (k : ℕ) → 0 + k ≡ k
      zero_plus k = omega arith
