-- The signs of words at which a dot is open, one after the other, and where they stand.
use Rattle.std.proofs.Common.{◌≡◌, ℕ, zero, suc, ◌+◌, ◌-◌, ◌*◌, ◌≤◌, ◌<◌, Bool, true, false, cond, not, List, [], ◌∷◌, ◌++◌, append-nil, filter, length, slice_get, Some, None, inl, inr, refl, sym, ap, ◌∙◌, arith, length-append}
use Rattle.std.specs.List.{range_with_len}
use Rattle.std.proofs.lemmas.Bool.{cases_Bool, cases_lt, lt-ltb, le-ltb}
use Rattle.std.proofs.lemmas.List.Elements.{filter-append}
use Rattle.pg_dict.specs.Inside.Store.{all_signs}
use Rattle.std.specs.List.{All, sum_by}
use Rattle.std.proofs.lemmas.List.Elements.{All-head, All-tail}
use Rattle.std.proofs.lemmas.List.Sums.{sum_by-cons}
use Rattle.pg_dict.specs.Word.{Word}
use Rattle.pg_dict.specs.Inside.SoundWords.{IsWord, letter_count}
use Rattle.pg_select.proofs.Reaches.{range_step}
use Rattle.pg_driver.specs.Inside.counting.OpenSigns.{open_signs, position_from, sign_count, start_of}

-- a range in two parts
pub range_append : (a n k : ℕ) → range_with_len a (n + k) ≡ range_with_len a n ++ range_with_len (a + n) k
range_append a zero k =
    let none : zero + k ≡ k = omega arith in
    let at : a ≡ a + zero = omega arith in
    ap (range_with_len a) none ∙ ap (λ b. range_with_len b k) at
range_append a (suc n) k =
    let more : suc n + k ≡ suc (n + k) = omega arith in
    let at : a + 1 + n ≡ a + suc n = omega arith in
    ap (range_with_len a) more ∙ ap (λ xs. a ∷ xs) (range_append (a + 1) n k ∙ ap (λ b. range_with_len (a + 1) n ++ range_with_len b k) at)

-- an element of a range
pub range_get : (a n k : ℕ) → k < n → slice_get (range_with_len a n) k ≡ Some (a + k)
range_get a zero k low = absurd (omega arith)
range_get a (suc n) zero low = let at : a ≡ a + zero = omega arith in ap Some at
range_get a (suc n) (suc k) low = let at : a + 1 + k ≡ a + suc k = omega arith in range_get (a + 1) n k (omega arith) ∙ ap Some at

-- the open signs from one on
module _ (closed : ℕ → Bool) (end : ℕ) where
  pub open_first : (s : ℕ) → s < end → closed s ≡ false → open_signs closed s end ≡ s ∷ open_signs closed (s + 1) end
  open_first s low is =
      ap (filter (λ x. not (closed x))) (range_step s end low)
      ∙ ap (λ b. cond (not b) (s ∷ open_signs closed (s + 1) end) (open_signs closed (s + 1) end)) is

  shut_first : (s : ℕ) → closed s ≡ true → open_signs closed s end ≡ open_signs closed (s + 1) end
  shut_first s is = elim (cases_lt s end) [
    | inl low ↦
        ap (filter (λ x. not (closed x))) (range_step s end low)
        ∙ ap (λ b. cond (not b) (s ∷ open_signs closed (s + 1) end) (open_signs closed (s + 1) end)) is
    | inr high ↦
        let none : end - s ≡ 0 = omega arith in
        let no_more : end - (s + 1) ≡ 0 = omega arith in
        ap (λ n. filter (λ x. not (closed x)) (range_with_len s n)) none
        ∙ sym (ap (λ n. filter (λ x. not (closed x)) (range_with_len (s + 1) n)) no_more)
  ]

  skip : (k s : ℕ) → ((i : ℕ) → s ≤ i → i < s + k → closed i ≡ true) → open_signs closed s end ≡ open_signs closed (s + k) end
  skip zero s shut = let at : s ≡ s + zero = omega arith in ap (λ b. open_signs closed b end) at
  skip (suc k) s shut =
      let at : s + 1 + k ≡ s + suc k = omega arith in
      shut_first s (shut s (omega arith) (omega arith))
      ∙ skip k (s + 1) (λ i from before. shut i (omega arith) (omega arith))
      ∙ ap (λ b. open_signs closed b end) at

  -- those that are closed are passed over
  pub open_skip : (s t : ℕ) → s ≤ t → ((i : ℕ) → s ≤ i → i < t → closed i ≡ true) → open_signs closed s end ≡ open_signs closed t end
  open_skip s t within shut =
      let at : s + (t - s) ≡ t = omega arith in
      skip (t - s) s (λ i from before. shut i from (omega arith)) ∙ ap (λ b. open_signs closed b end) at

  -- behind the last one there is none
  pub open_none : (s : ℕ) → end ≤ s → open_signs closed s end ≡ []
  open_none s high = let none : end - s ≡ 0 = omega arith in ap (λ n. filter (λ x. not (closed x)) (range_with_len s n)) none

  -- where one is open behind others that are not, it stands before the end
  pub open_there : (s t x : ℕ) (xs : List ℕ) → s ≤ t → ((i : ℕ) → s ≤ i → i < t → closed i ≡ true) → open_signs closed s end ≡ x ∷ xs → t < end
  open_there s t x xs within shut some = elim (cases_lt t end) [
    | inl low ↦ low
    | inr high ↦ absurd (let both : [] ≡ x ∷ xs = sym (open_none t high) ∙ sym (open_skip s t within shut) ∙ some in cc)
  ]

  -- where none is open each is closed
  none_first : (s : ℕ) → open_signs closed s end ≡ [] → s < end → closed s ≡ true
  none_first s none low = elim (cases_Bool (closed s)) [
    | inl shut ↦ shut
    | inr free ↦ absurd (let both : s ∷ open_signs closed (s + 1) end ≡ [] = sym (open_first s low free) ∙ none in cc)
  ]

  shut_at : (k s : ℕ) → open_signs closed s end ≡ [] → s + k < end → closed (s + k) ≡ true
  shut_at zero s none low = let at : s + zero ≡ s = omega arith in ap closed at ∙ none_first s none (omega arith)
  shut_at (suc k) s none low =
      let at : s + suc k ≡ s + 1 + k = omega arith in
      ap closed at ∙ shut_at k (s + 1) (sym (shut_first s (none_first s none (omega arith))) ∙ none) (omega arith)

  pub all_shut : (s i : ℕ) → open_signs closed s end ≡ [] → s ≤ i → i < end → closed i ≡ true
  all_shut s i none from low = let at : s + (i - s) ≡ i = omega arith in sym (ap closed at) ∙ shut_at (i - s) s none (omega arith)

-- the open signs up to one
abbrev pub open_upto : (ℕ → Bool) → ℕ → List ℕ
open_upto closed end = filter (λ s. not (closed s)) (range_with_len 0 end)

module _ (closed : ℕ → Bool) where
  upto_next : (s : ℕ) → open_upto closed (s + 1) ≡ open_upto closed s ++ filter (λ x. not (closed x)) (s ∷ [])
  upto_next s =
      ap (filter (λ x. not (closed x))) (range_append 0 s 1 ∙ (let at : 0 + s ≡ s = omega arith in ap (λ b. range_with_len 0 s ++ (b ∷ [])) at))
      ∙ filter-append (λ x. not (closed x)) (range_with_len 0 s) (s ∷ [])

  pub upto_open : (s : ℕ) → closed s ≡ false → open_upto closed (s + 1) ≡ open_upto closed s ++ s ∷ []
  upto_open s is = upto_next s ∙ ap (λ b. open_upto closed s ++ cond (not b) (s ∷ []) []) is

  upto_shut : (s : ℕ) → closed s ≡ true → open_upto closed (s + 1) ≡ open_upto closed s
  upto_shut s is = upto_next s ∙ ap (λ b. open_upto closed s ++ cond (not b) (s ∷ []) []) is ∙ append-nil (open_upto closed s)

  skip_upto : (k s : ℕ) → ((i : ℕ) → s ≤ i → i < s + k → closed i ≡ true) → open_upto closed s ≡ open_upto closed (s + k)
  skip_upto zero s shut = let at : s ≡ s + zero = omega arith in ap (open_upto closed) at
  skip_upto (suc k) s shut =
      let at : s + k + 1 ≡ s + suc k = omega arith in
      skip_upto k s (λ i from before. shut i from (omega arith))
      ∙ sym (upto_shut (s + k) (shut (s + k) (omega arith) (omega arith)))
      ∙ ap (open_upto closed) at

  pub upto_skip : (s t : ℕ) → s ≤ t → ((i : ℕ) → s ≤ i → i < t → closed i ≡ true) → open_upto closed s ≡ open_upto closed t
  upto_skip s t within shut =
      let at : s + (t - s) ≡ t = omega arith in
      skip_upto (t - s) s (λ i from before. shut i from (omega arith)) ∙ ap (open_upto closed) at

  pub upto_all : (end : ℕ) → open_upto closed end ≡ open_signs closed 0 end
  upto_all end = let at : end ≡ end - 0 = omega arith in ap (open_upto closed) at

-- the signs of words
pub signs_cons : (w : Word) (ws : List Word) → sign_count (w ∷ ws) ≡ length w.signs + sign_count ws
signs_cons w ws = length-append w.signs (all_signs ws)

pub start_next : (words : List Word) (n : ℕ) (w : Word) → slice_get words n ≡ Some w → start_of words (n + 1) ≡ start_of words n + length w.signs
start_next [] n w at = absurd (let no : None ≡ Some w = at in cc)
start_next (v ∷ words) zero w at =
    let same : v ≡ w = (let both : Some v ≡ Some w = at in cc) in
    first words ∙ ap (λ (u : Word). length u.signs) same ∙ (let z : length w.signs ≡ 0 + length w.signs = omega arith in z)
  where
    first : (ws : List Word) → start_of (v ∷ ws) (zero + 1) ≡ length v.signs
    first [] = (let z : length v.signs + 0 ≡ length v.signs = omega arith in z)
    first (u ∷ ws) = (let z : length v.signs + 0 ≡ length v.signs = omega arith in z)
start_next (v ∷ words) (suc n) w at =
    let next : suc n + 1 ≡ suc (n + 1) = omega arith in
    ap (start_of (v ∷ words)) next ∙ ap (λ k. length v.signs + k) (start_next words n w at)
    ∙ (let z : length v.signs + (start_of words n + length w.signs) ≡ length v.signs + start_of words n + length w.signs = omega arith in z)

pub start_zero : (words : List Word) → 0 ≡ start_of words 0
start_zero [] = refl
start_zero (w ∷ words) = refl

pub start_past : (words : List Word) (n : ℕ) → length words ≤ n → start_of words n ≡ sign_count words
start_past [] n past = refl
start_past (w ∷ words) zero past = absurd (omega arith)
start_past (w ∷ words) (suc n) past = ap (λ k. length w.signs + k) (start_past words n (omega arith)) ∙ sym (signs_cons w words)

pub sign_within : (words : List Word) (n p : ℕ) (w : Word) → slice_get words n ≡ Some w → p < length w.signs → start_of words n + p < sign_count words
sign_within [] n p w at low = absurd (let no : None ≡ Some w = at in cc)
sign_within (v ∷ words) zero p w at low =
    let same : v ≡ w = (let both : Some v ≡ Some w = at in cc) in
    let size = ap (λ (u : Word). length u.signs) same in
    omega (arith, signs_cons v words)
sign_within (v ∷ words) (suc n) p w at low = omega (arith, sign_within words n p w at low, signs_cons v words)

-- a word ends before those behind it
pub start_before : (words : List Word) (n i : ℕ) (w : Word) → slice_get words n ≡ Some w → n < i → start_of words n + length w.signs ≤ start_of words i
start_before [] n i w at less = absurd (let no : None ≡ Some w = at in cc)
start_before (v ∷ words) n zero w at less = absurd (omega arith)
start_before (v ∷ words) zero (suc i) w at less =
    let same : v ≡ w = (let both : Some v ≡ Some w = at in cc) in
    let size = ap (λ (u : Word). length u.signs) same in
    omega arith
start_before (v ∷ words) (suc n) (suc i) w at less = omega (arith, start_before words n i w at (omega arith))

-- words have no more signs than three for each letter
pub signs_few : (words : List Word) → All IsWord words → sign_count words ≤ 3 * sum_by letter_count words
signs_few [] all = omega arith
signs_few (w ∷ words) all =
    let word : IsWord w = All-head IsWord w words all in
    omega (arith, signs_cons w words, sum_by-cons letter_count w words, word.long, signs_few words (All-tail IsWord w words all))

-- the place of a sign
pub place_at : (k : ℕ) (words : List Word) (n p : ℕ) (w : Word) → slice_get words n ≡ Some w → p < length w.signs → position_from k words (start_of words n + p) ≡ record { word = k + n; at = p }
place_at k [] n p w at low = absurd (let no : None ≡ Some w = at in cc)
place_at k (v ∷ words) zero p w at low =
    let same : v ≡ w = (let both : Some v ≡ Some w = at in cc) in
    let size : length v.signs ≡ length w.signs = ap (λ (u : Word). length u.signs) same in
    let sign : zero + p ≡ p = omega arith in
    let number : k ≡ k + zero = omega arith in
    ap (position_from k (v ∷ words)) sign
    ∙ ap (λ b. cond b (record { word = k; at = p }) (position_from (k + 1) words (p - length v.signs))) (lt-ltb p (length v.signs) (omega arith))
    ∙ ap (λ (n : ℕ). record { word = n; at = p }) number
place_at k (v ∷ words) (suc n) p w at low =
    let left : length v.signs + start_of words n + p - length v.signs ≡ start_of words n + p = omega arith in
    let number : k + 1 + n ≡ k + suc n = omega arith in
    ap (λ b. cond b (record { word = k; at = length v.signs + start_of words n + p }) (position_from (k + 1) words (length v.signs + start_of words n + p - length v.signs)))
    (le-ltb (length v.signs + start_of words n + p) (length v.signs) (omega arith))
    ∙ ap (position_from (k + 1) words) left
    ∙ place_at (k + 1) words n p w at low
    ∙ ap (λ (m : ℕ). record { word = m; at = p }) number

-- each sign stands in a word
pub record IsSignOf (words : List Word) (s : ℕ) : Type 0 where
  pub number : ℕ
  pub at : ℕ
  pub word : Word
  pub there : slice_get words number ≡ Some word
  pub within : at < length word.signs
  pub is : start_of words number + at ≡ s

pub sign_of : (words : List Word) (s : ℕ) → s < sign_count words → IsSignOf words s
sign_of [] s low = absurd (omega arith)
sign_of (w ∷ words) s low = elim (cases_lt s (length w.signs)) [
  | inl here ↦ record { number = 0; at = s; word = w; there = refl; within = here; is = (let z : 0 + s ≡ s = omega arith in z) }
  | inr later ↦
      let rest = sign_of words (s - length w.signs) (omega (arith, signs_cons w words)) in
      record {
        number = suc rest.number;
        at = rest.at;
        word = rest.word;
        there = rest.there;
        within = rest.within;
        is = (let is = rest.is in let z : length w.signs + start_of words rest.number + rest.at ≡ s = omega arith in z);
      }
]

-- and has its place there
pub place_of : (words : List Word) (s : ℕ) (of : IsSignOf words s) → position_from 0 words s ≡ record { word = of.number; at = of.at }
place_of words s of =
    let zero_plus : 0 + of.number ≡ of.number = omega arith in
    ap (position_from 0 words) (sym of.is) ∙ place_at 0 words of.number of.at of.word of.there of.within ∙ ap (λ (n : ℕ). record { word = n; at = of.at }) zero_plus
