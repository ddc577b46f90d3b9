-- The word at a place of a dictionary, and the words behind it.
use Rattle.std.proofs.Common.{◌≡◌, ℕ, ◌+◌, ◌≤◌, List, ◌∷◌, drop, slice_get, Some, All, ap, subst, ◌∙◌}
use Rattle.std.specs.List.{sum_by}
use Rattle.std.proofs.lemmas.List.{drop_more}
use Rattle.std.proofs.lemmas.List.Sums.{sum_by-cons}
use Rattle.std.proofs.lemmas.Option.{slice_get_within, get_or_from_slice_get}
use Rattle.pg_dict.specs.Word.{Word}
use Rattle.pg_dict.specs.Inside.SoundWords.{SignsAtMost, letter_count}

-- the place of an element, and what stands behind it
pub drop_place : {X : Type 0} (xs : List X) (i : ℕ) (x : X) → slice_get xs i ≡ Some x → drop i xs ≡ x ∷ drop (i + 1) xs
drop_place xs i x at = drop_more xs i x (slice_get_within xs i x at) ∙ ap (λ y. y ∷ drop (i + 1) xs) (get_or_from_slice_get xs i x x at)

-- the letters of the words that are left
pub letters_left : (ws : List Word) (i : ℕ) (w : Word) → slice_get ws i ≡ Some w → sum_by letter_count (drop i ws) ≡ letter_count w + sum_by letter_count (drop (i + 1) ws)
letters_left ws i w at = ap (λ us. sum_by letter_count us) (drop_place ws i w at) ∙ sum_by-cons letter_count w (drop (i + 1) ws)

-- the signs of a word are within those of all
pub signs_within : (n : ℕ) (ws : List Word) (i : ℕ) (w : Word) → slice_get ws i ≡ Some w → SignsAtMost n ws → All (λ s. s ≤ n) w.signs
signs_within n ws i w at most =
    let P : Word → Type 0 = λ (u : Word). All (λ sign. sign ≤ n) u.signs in
    subst P (get_or_from_slice_get ws i w w at) (most i w (slice_get_within ws i w at))
