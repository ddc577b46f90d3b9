-- Where the open positions are, and how many there are.
use Rattle.std.proofs.Common.{◌≡◌, ℕ, zero, suc, ◌+◌, ◌-◌, ◌≤◌, ◌<◌, nat_le, Bool, true, false, cond, List, [], ◌∷◌, length, map, slice_get, Option, Some, None, refl, sym, ap, subst, ◌∙◌, arith}
use Rattle.std.specs.List.{All, flat_map, range_with_len, sum_by}
use Rattle.std.specs.Option.{option_map_or}
use Rattle.std.proofs.lemmas.Bool.{leb-true}
use Rattle.std.proofs.lemmas.List.{length-append, length-map}
use Rattle.std.proofs.lemmas.List.Elements.{All-nil, All-cons, All-head, All-tail, All-append, All-map, All-same, All-weaker}
use Rattle.std.proofs.lemmas.List.Sums.{sum_by-cons}
use Rattle.std.proofs.lemmas.Option.{slice_get_within}
use Rattle.pg_translate.specs.Alphabets.{Alphabet}
use Rattle.pg_translate.specs.Reach.{positions}
use Rattle.pg_dict.specs.Word.{Word}
use Rattle.pg_dict.specs.Inside.SoundWords.{letter_count}
use Rattle.pg_select.specs.Inside.laws.Laws.{number_of_positions}
use Rattle.pg_driver.specs.declared.pass_windows.WordPosition.{WordPosition}
use Rattle.pg_driver.specs.Inside.counting.OpenPositions.{numbered_positions, open_with, IsInWord}

all_flat : {X Y : Type 0} (P : Y → Type 0) (Q : X → Type 0) (f : X → List Y) → ((x : X) → Q x → All P (f x)) → (xs : List X) → All Q xs → All P (flat_map f xs)
all_flat P Q f each [] all = All-nil P
all_flat P Q f each (x ∷ xs) all = All-append P (f x) (flat_map f xs) (each x (All-head Q x xs all)) (all_flat P Q f each xs (All-tail Q x xs all))

ranged : (end n k : ℕ) → n + k ≤ end → All (λ p. p < end) (range_with_len n k)
ranged end n zero within = All-nil (λ p. p < end)
ranged end n (suc k) within = All-cons (λ p. p < end) n (range_with_len (n + 1) k) (omega arith) (ranged end (n + 1) k (omega arith))

in_reach : (left right size : ℕ) → All (λ p. p < size) (positions left right size)
in_reach left right size = by_test (nat_le (left + right + 2) size) (leb-true (left + right + 2) size)
  where
    by_test : (b : Bool) → (b ≡ true → left + right + 2 ≤ size) → All (λ p. p < size)
        (option_map_or (λ (ends : ℕ × ℕ). range_with_len ends.0 (ends.1 + 1 - ends.0)) (cond b (Some (left + 1, size - right - 1)) None) [])
    by_test false enough = All-nil (λ p. p < size)
    by_test true enough = let long : left + right + 2 ≤ size = enough refl in ranged size (left + 1) (size - right - 1 + 1 - (left + 1)) (omega arith)

record IsNumbered (words : List Word) (s : ℕ × ℕ) : Type 0 where
  word : s.0 < length words
  within : (w : Word) → slice_get words s.0 ≡ Some w → s.1 < length w.signs

numbered_in : (m : Alphabet) (words : List Word) (n : ℕ) (ws : List Word) → ((k : ℕ) (w : Word) → slice_get ws k ≡ Some w → slice_get words (n + k) ≡ Some w)
    → All (IsNumbered words) (numbered_positions m n ws)
numbered_in m words n [] place = All-nil (IsNumbered words)
numbered_in m words n (w ∷ ws) place =
    All-append (IsNumbered words) (map (λ p. (n, p)) (positions m.left m.right (length w.signs))) (numbered_positions m (n + 1) ws)
    (All-map (IsNumbered words) (λ (p : ℕ). (n, p)) (positions m.left m.right (length w.signs))
    (All-weaker (λ p. p < length w.signs) (λ p. IsNumbered words (n, p)) (λ p low. here_in p low) (positions m.left m.right (length w.signs)) (in_reach m.left m.right (length w.signs))))
    (numbered_in m words (n + 1) ws (λ k v at. ap (slice_get words) (plus_one n k) ∙ place (suc k) v at))
  where
    plus_one : (n k : ℕ) → n + 1 + k ≡ n + suc k
    plus_one n k = omega arith

    plus_zero : (n : ℕ) → n ≡ n + 0
    plus_zero n = omega arith

    here : slice_get words n ≡ Some w
    here = ap (slice_get words) (plus_zero n) ∙ place 0 w refl

    same : (a b : Word) → Some a ≡ Some b → a ≡ b
    same a b is = cc

    here_in : (p : ℕ) → p < length w.signs → IsNumbered words (n, p)
    here_in p low = record {
      word = slice_get_within words n w here;
      within = λ v at. subst (λ (u : Word). p < length u.signs) (same w v (sym here ∙ at)) low;
    }

placed_with : (words : List Word) (listed : ℕ → ℕ → Option Bool) (s : ℕ × ℕ) → IsNumbered words s → All (IsInWord words) (open_with listed s)
placed_with words listed s here_in = by_listed (listed s.0 s.1)
  where
    by_listed : (o : Option Bool) → All (IsInWord words) (option_map_or (λ (good : Bool). record { word = s.0; at = s.1 } ∷ []) o [])
    by_listed None = All-nil (IsInWord words)
    by_listed (Some good) = All-cons (IsInWord words) (record { word = s.0; at = s.1 }) [] (record { word = here_in.word; within = here_in.within }) (All-nil (IsInWord words))

-- entries stand in the words
pub entries_placed : (m : Alphabet) (words : List Word) (listed : ℕ → ℕ → Option Bool) (entries : List WordPosition) → entries
    ≡ flat_map (open_with listed) (numbered_positions m 0 words) → All (IsInWord words) entries
entries_placed m words listed entries are =
    All-same (IsInWord words) entries (flat_map (open_with listed) (numbered_positions m 0 words)) are
    (all_flat (IsInWord words) (IsNumbered words) (open_with listed) (placed_with words listed) (numbered_positions m 0 words)
    (numbered_in m words 0 words (λ k w at. ap (slice_get words) (zero_plus k) ∙ at)))
  where
    zero_plus : (k : ℕ) → 0 + k ≡ k
    zero_plus k = omega arith

few_open : (listed : ℕ → ℕ → Option Bool) (numbered : List (ℕ × ℕ)) → length (flat_map (open_with listed) numbered) ≤ length numbered
few_open listed [] = omega arith
few_open listed (s ∷ numbered) =
    let rest : length (flat_map (open_with listed) numbered) ≤ length numbered = few_open listed numbered in
    let here : length (open_with listed s) ≤ 1 = one (listed s.0 s.1) in
    omega (arith, length-append (open_with listed s) (flat_map (open_with listed) numbered))
  where
    one : (o : Option Bool) → length {A = WordPosition} (option_map_or (λ (good : Bool). record { word = s.0; at = s.1 } ∷ []) o []) ≤ 1
    one None = omega arith
    one (Some good) = omega arith

numbered_length : (m : Alphabet) (n : ℕ) (words : List Word) → length (numbered_positions m n words) ≡ number_of_positions m words
numbered_length m n [] = refl
numbered_length m n (w ∷ words) =
    let rest : length (numbered_positions m (n + 1) words) ≡ number_of_positions m words = numbered_length m (n + 1) words in
    let sizes : length (map {B = ℕ × ℕ} (λ p. (n, p)) (positions m.left m.right (length w.signs))) ≡ length (positions m.left m.right (length w.signs)) =
    length-map (positions m.left m.right (length w.signs)) (λ (p : ℕ). (n, p)) in
    omega (
      arith,
      length-append (map (λ p. (n, p)) (positions m.left m.right (length w.signs))) (numbered_positions m (n + 1) words),
      sizes,
      sum_by-cons (λ (w : Word). length (positions m.left m.right (length w.signs))) w words,
    )

-- and there are no more than letters
pub entries_few : (m : Alphabet) (words : List Word) (listed : ℕ → ℕ → Option Bool) (entries : List WordPosition) → number_of_positions m words ≤ sum_by letter_count words
    → entries ≡ flat_map (open_with listed) (numbered_positions m 0 words) → length entries ≤ sum_by letter_count words
entries_few m words listed entries reached are =
    omega (arith, ap (λ (es : List WordPosition). length es) are, few_open listed (numbered_positions m 0 words), numbered_length m 0 words)
