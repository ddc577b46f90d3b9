-- The word at a place of a dictionary, and the words behind it.
use Rattle.std.proofs.Common.{◌≡◌, ℕ, ◌+◌, ◌-◌, ◌≤◌, List, ◌∷◌, drop, length, slice_get, Some, All, ap, subst, ◌∙◌, arith}
use Rattle.std.specs.List.{range_with_len, sum_by}
use Rattle.std.proofs.lemmas.List.{drop_all, drop_more}
use Rattle.std.proofs.lemmas.List.FromFn.{length-range_with_len}
use Rattle.std.proofs.lemmas.List.Sums.{sum_by-cons}
use Rattle.std.proofs.lemmas.Option.{slice_get_within, get_or_from_slice_get}
use Rattle.pg_types.specs.Inside.Signs.{SignsWithin}
use Rattle.pg_translate.specs.Alphabets.{Alphabet}
use Rattle.pg_translate.specs.Reach.{positions}
use Rattle.pg_dict.specs.Word.{Word}
use Rattle.pg_dict.specs.Inside.SoundWords.{IsWord, SignsAtMost, letter_count}
use Rattle.pg_select.specs.Inside.laws.Laws.{number_of_positions}

-- the place of an element, and what stands behind it
pub drop_place : {X : Type 0} (xs : List X) (i : ℕ) (x : X) → slice_get xs i ≡ Some x → drop i xs ≡ x ∷ drop (i + 1) xs
drop_place xs i x at = drop_more xs i x (slice_get_within xs i x at) ∙ ap (λ y. y ∷ drop (i + 1) xs) (get_or_from_slice_get xs i x x at)

-- the letters of the words that are left
pub letters_left : (ws : List Word) (i : ℕ) (w : Word) → slice_get ws i ≡ Some w → sum_by letter_count (drop i ws) ≡ letter_count w + sum_by letter_count (drop (i + 1) ws)
letters_left ws i w at = ap (λ us. sum_by letter_count us) (drop_place ws i w at) ∙ sum_by-cons letter_count w (drop (i + 1) ws)

-- so many positions in reach, which follow one another
pub reach_few : (ps : List ℕ) (first end n : ℕ) → ps ≡ range_with_len first (end - first) → end - first ≤ n → length ps ≤ n
reach_few ps first end n are few = omega (arith, ap (λ (qs : List ℕ). length qs) are, length-range_with_len first (end - first))

-- the words so far have no more positions in reach than letters
abbrev pub AreReached : Alphabet → List Word → ℕ → Type 0
AreReached m ws i = number_of_positions m ws + sum_by letter_count (drop i ws) ≤ sum_by letter_count ws + number_of_positions m (drop i ws)

pub reached_on : (m : Alphabet) (ws : List Word) (i : ℕ) (w : Word) → slice_get ws i ≡ Some w → length (positions m.left m.right (length w.signs)) ≤ letter_count w
    → AreReached m ws i → AreReached m ws (i + 1)
reached_on m ws i w at few before =
    let here : number_of_positions m (drop i ws) ≡ length (positions m.left m.right (length w.signs)) + number_of_positions m (drop (i + 1) ws) =
    ap (λ us. number_of_positions m us) (drop_place ws i w at) ∙ sum_by-cons (λ (v : Word). length (positions m.left m.right (length v.signs))) w (drop (i + 1) ws) in
    omega (arith, letters_left ws i w at)

pub all_reached : (m : Alphabet) (ws : List Word) (i : ℕ) → length ws ≤ i → AreReached m ws i → number_of_positions m ws ≤ sum_by letter_count ws
all_reached m ws i end before =
    let none : number_of_positions m (drop i ws) ≡ 0 = ap (λ us. number_of_positions m us) (drop_all i ws end) in
    omega arith

-- the signs of a word are within those of all
pub signs_within : (n : ℕ) (ws : List Word) (i : ℕ) (w : Word) → slice_get ws i ≡ Some w → SignsAtMost n ws → IsWord w → SignsWithin n w.signs
signs_within n ws i w at most word k d inside =
    let P : Word → Type 0 = λ (u : Word). All (λ sign. sign ≤ n) u.signs in
    let here : P w = subst P (get_or_from_slice_get ws i w w at) (most i w (slice_get_within ws i w at)) in
    (word.signs k d inside, here k d inside)
