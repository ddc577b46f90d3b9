-- What a pass counts at the signs at which its dot is open is what it counts.
use Rattle.std.proofs.Common.{◌≡◌, ℕ, zero, suc, ◌+◌, ◌-◌, ◌≤◌, ◌<◌, nat_le, nat_eq, Bool, true, false, cond, not, ◌&&◌, ◌||◌, List, [], ◌∷◌, ◌++◌, append-nil, filter, length, map, slice_get, Option, Some, None, inl, inr, refl, sym, ap, subst, ◌∙◌, arith, length-append}
use Rattle.std.proofs.lemmas.List.{map-append}
use Rattle.std.specs.List.{flat_map, list_any, range_with_len, sum_by}
use Rattle.std.specs.Option.{option_map_or}
use Rattle.std.proofs.lemmas.Bool.{cases_Bool, cases_eq, eq-eqb, ne_eqb, lt-ltb, le-ltb, leb-true}
use Rattle.std.proofs.lemmas.List.Concat.{flat_map-append}
use Rattle.std.proofs.lemmas.List.Elements.{filter-append}
use Rattle.std.proofs.lemmas.List.Sums.{sum_by-cons}
use Rattle.pg_types.specs.declared.limits.TheConstants.{LENGTH_MAX}
use Rattle.pg_translate.specs.Alphabets.{Alphabet}
use Rattle.pg_translate.specs.Reach.{positions}
use Rattle.pg_dict.specs.Word.{Word}
use Rattle.pg_dict.specs.Inside.SoundWords.{letter_count}
use Rattle.pg_patterns.specs.Values.{Patterns}
use Rattle.pg_select.specs.Inside.laws.Laws.{number_of_positions}
use Rattle.pg_select.specs.Inside.laws.ClosedDots.{counted_with, is_good, pass_at}
use Rattle.pg_select.specs.Inside.words.PositionLists.{CountedPosition, counted_positions_at, counted_positions}
use Rattle.pg_select.specs.Inside.words.WordCounts.{counted_positions_in}
use Rattle.pg_select.specs.Statuses.{position_weight}
use Rattle.pg_select.specs.Windows.{Hopeless, window, fits}
use Rattle.pg_select.proofs.LawsCounts.{counted_as}
use Rattle.pg_driver.specs.declared.pass_windows.WordPosition.{WordPosition}
use Rattle.pg_driver.specs.Inside.counting.OpenPositions.{counted_in, counted_of}
use Rattle.pg_driver.specs.Inside.counting.OpenSigns.{IsLevelAt, DotsTell, is_in_reach, open_word_positions, open_signs, position_from, sign_count, start_of}
use Rattle.pg_driver.proofs.OpenSigns.{range_append, signs_cons}

-- the same parts give the same whole
flat_range : {Y : Type 0} (f g : ℕ → List Y) (a n : ℕ) → ((p : ℕ) → a ≤ p → p < a + n → f p ≡ g p) → flat_map f (range_with_len a n) ≡ flat_map g (range_with_len a n)
flat_range f g a zero same = refl
flat_range f g a (suc n) same = λ i. same a (omega arith) (omega arith) i ++ flat_range f g (a + 1) n (λ p from before. same p (omega arith) (omega arith)) i

flat_none : {Y : Type 0} (a n : ℕ) → flat_map {A = Y} (λ (p : ℕ). []) (range_with_len a n) ≡ []
flat_none a zero = refl
flat_none a (suc n) = flat_none (a + 1) n

-- whether a number is in a range
pub any_inside : (p a n : ℕ) → a ≤ p → p < a + n → list_any (nat_eq p) (range_with_len a n) ≡ true
any_inside p a zero low high = absurd (omega arith)
any_inside p a (suc n) low high = elim (cases_eq p a) [
  | inl same ↦ ap (λ b. b || list_any (nat_eq p) (range_with_len (a + 1) n)) (eq-eqb p a same)
  | inr other ↦ ap (λ b. b || list_any (nat_eq p) (range_with_len (a + 1) n)) (ne_eqb p a other) ∙ any_inside p (a + 1) n (omega arith) (omega arith)
]

pub any_below : (p a n : ℕ) → p < a → list_any (nat_eq p) (range_with_len a n) ≡ false
any_below p a zero low = refl
any_below p a (suc n) low = ap (λ b. b || list_any (nat_eq p) (range_with_len (a + 1) n)) (ne_eqb p a (λ is. omega arith)) ∙ any_below p (a + 1) n (omega arith)

pub any_above : (p a n : ℕ) → a + n ≤ p → list_any (nat_eq p) (range_with_len a n) ≡ false
any_above p a zero high = refl
any_above p a (suc n) high = ap (λ b. b || list_any (nat_eq p) (range_with_len (a + 1) n)) (ne_eqb p a (λ is. omega arith)) ∙ any_above p (a + 1) n (omega arith)

middle : {Y : Type 0} (f : ℕ → List Y) (a n size : ℕ) → a + n ≤ size → flat_map f (range_with_len a n)
    ≡ flat_map (λ (p : ℕ). cond (list_any (nat_eq p) (range_with_len a n)) (f p) []) (range_with_len 0 size)
middle {Y} f a n size within =
    let g : ℕ → List Y = λ p. cond (list_any (nat_eq p) (range_with_len a n)) (f p) [] in
    let none : ℕ → List Y = λ p. [] in
    let whole : a + (n + (size - (a + n))) ≡ size = omega arith in
    let first : flat_map g (range_with_len 0 a) ≡ [] = flat_range g none 0 a (λ p from before. ap (λ b. cond b (f p) []) (any_below p a n (omega arith))) ∙ flat_none 0 a in
    let here : flat_map f (range_with_len a n) ≡ flat_map g (range_with_len a n) = flat_range f g a n (λ p from before. sym (ap (λ b. cond b (f p) []) (any_inside p a n from before))) in
    let last : flat_map g (range_with_len (a + n) (size - (a + n))) ≡ [] = flat_range g none (a + n) (size - (a + n)) (λ p from before. ap (λ b. cond b (f p) []) (any_above p a n from))
    ∙ flat_none (a + n) (size - (a + n)) in
    let zero_plus : 0 + a ≡ a = omega arith in
    here
    ∙ sym (append-nil (flat_map g (range_with_len a n)))
    ∙ ap (λ (ys : List Y). flat_map g (range_with_len a n) ++ ys) (sym last)
    ∙ sym (flat_map-append g (range_with_len a n) (range_with_len (a + n) (size - (a + n))))
    ∙ ap (flat_map g) (sym (range_append a n (size - (a + n))))
    ∙ ap (λ (ys : List Y). ys ++ flat_map g (range_with_len a (n + (size - (a + n))))) (sym first)
    ∙ ap (λ b. flat_map g (range_with_len 0 a) ++ flat_map g (range_with_len b (n + (size - (a + n))))) (sym zero_plus)
    ∙ sym (flat_map-append g (range_with_len 0 a) (range_with_len (0 + a) (n + (size - (a + n)))))
    ∙ ap (flat_map g) (sym (range_append 0 a (n + (size - (a + n)))) ∙ ap (range_with_len 0) whole)

-- the positions in reach are those of all that are in reach
pub reach_flat : {Y : Type 0} (f : ℕ → List Y) (left right size : ℕ) → flat_map f (positions left right size)
    ≡ flat_map (λ (p : ℕ). cond (list_any (nat_eq p) (positions left right size)) (f p) []) (range_with_len 0 size)
reach_flat {Y} f left right size = by (nat_le (left + right + 2) size) (leb-true (left + right + 2) size)
  where
    reached : Bool → List ℕ
    reached b = option_map_or (λ (ends : ℕ × ℕ). range_with_len ends.0 (ends.1 + 1 - ends.0)) (cond b (Some (left + 1, size - right - 1)) None) []

    by : (b : Bool) → (b ≡ true → left + right + 2 ≤ size) → flat_map f (reached b) ≡ flat_map (λ (p : ℕ). cond (list_any (nat_eq p) (reached b)) (f p) []) (range_with_len 0 size)
    by true enough = let long : left + right + 2 ≤ size = enough refl in middle f (left + 1) (size - right - 1 + 1 - (left + 1)) size (omega arith)
    by false enough = sym (flat_none 0 size)

-- one element that passes a test, or not, and then the rest
split : {X Y : Type 0} (f : X → List Y) (g : ℕ → X) (b : Bool) (p : ℕ) (xs : List ℕ) → flat_map f (map g (cond b (p ∷ xs) xs)) ≡ flat_map f (map g (cond b (p ∷ []) [])) ++ flat_map f (map g xs)
split f g true p xs = ap (λ ys. ys ++ flat_map f (map g xs)) (sym (append-nil (f (g p))))
split f g false p xs = refl

module _ (level len dot : ℕ) (m : Alphabet) (words : List Word) (P : Patterns) (H : Hopeless) (closed : ℕ → Bool) (dots : ℕ → ℕ → Bool)
    (is : (s : ℕ) → dots dot s ≡ closed s) (short : len ≤ LENGTH_MAX) (within : dot ≤ len) where
  -- a position
  counted_one : (n p : ℕ) (w : Word) (c : ℕ → Bool) → slice_get words n ≡ Some w → DotsTell level len m P H w p c
      → cond (is_in_reach m w p) (counted_positions_at (pass_at level len dot) P H w p) []
      ≡ flat_map (counted_of (pass_at level len dot) words) (map (λ (q : ℕ). record { word = n; at = q }) (cond (not (c dot)) (p ∷ []) []))
  counted_one n p w c at told = elim (cases_Bool (is_in_reach m w p)) [
    | inl reach ↦
        ap (λ b. cond b (counted_positions_at (pass_at level len dot) P H w p) []) reach
        ∙ ap (λ (o : Option Bool). counted_as (window w.signs p len dot) (position_weight w p) o) (told.inside reach dot (omega arith))
        ∙ by (c dot)
    | inr other ↦
        ap (λ b. cond b (counted_positions_at (pass_at level len dot) P H w p) []) other
        ∙ ap (λ b. flat_map (counted_of (pass_at level len dot) words) (map (λ (q : ℕ). record { word = n; at = q }) (cond (not b) (p ∷ []) []))) (sym (told.outside other dot (omega arith)))
  ]
    where
      nothing : (f : Bool) → counted_as (window w.signs p len dot) (position_weight w p) (cond (f && false) (Some (is_good level w p)) None) ≡ []
      nothing true = refl
      nothing false = refl

      by : (b : Bool) → counted_as (window w.signs p len dot) (position_weight w p) (counted_with level w p len dot b)
          ≡ flat_map (counted_of (pass_at level len dot) words) (map (λ (q : ℕ). record { word = n; at = q }) (cond (not b) (p ∷ []) []))
      by true = nothing (fits w.signs p len dot)
      by false =
          ap (λ (o : Option Word). option_map_or (λ (u : Word). counted_in (pass_at level len dot) u p) o []) (sym at)
          ∙ sym (append-nil (counted_of (pass_at level len dot) words (record { word = n; at = p })))

  -- the positions of a word
  counted_word : (n start : ℕ) (w : Word) (ws : List Word) → slice_get words n ≡ Some w → ((p : ℕ) → p < length w.signs → DotsTell level len m P H w p (λ d. dots d (start + p)))
      → (a k : ℕ) → a + k ≤ length w.signs
      → flat_map (λ (p : ℕ). cond (is_in_reach m w p) (counted_positions_at (pass_at level len dot) P H w p) []) (range_with_len a k)
      ≡ flat_map (counted_of (pass_at level len dot) words) (map (position_from n (w ∷ ws)) (filter (λ s. not (closed (start + s))) (range_with_len a k)))
  counted_word n start w ws at told a zero inside = refl
  counted_word n start w ws at told a (suc k) inside =
      (λ i. counted_one n a w (λ d. dots d (start + a)) at (told a (omega arith)) i ++ counted_word n start w ws at told (a + 1) k (omega arith) i)
      ∙ ap (λ b. flat_map (counted_of (pass_at level len dot) words) (map (λ (q : ℕ). record { word = n; at = q }) (cond (not b) (a ∷ []) [])) ++ rest) (is (start + a))
      ∙ ap (λ (ys : List CountedPosition). ys ++ rest) (places (not (closed (start + a))))
      ∙ sym (split (counted_of (pass_at level len dot) words) (position_from n (w ∷ ws)) (not (closed (start + a))) a (filter (λ s. not (closed (start + s))) (range_with_len (a + 1) k)))
    where
      rest : List CountedPosition
      rest = flat_map (counted_of (pass_at level len dot) words) (map (position_from n (w ∷ ws)) (filter (λ s. not (closed (start + s))) (range_with_len (a + 1) k)))

      places : (b : Bool) → flat_map (counted_of (pass_at level len dot) words) (map (λ (q : ℕ). record { word = n; at = q }) (cond b (a ∷ []) []))
          ≡ flat_map (counted_of (pass_at level len dot) words) (map (position_from n (w ∷ ws)) (cond b (a ∷ []) []))
      places true = ap (λ (e : WordPosition). counted_of (pass_at level len dot) words e ++ [])
          (sym (ap (λ b. cond b (record { word = n; at = a }) (position_from (n + 1) ws (a - length w.signs))) (lt-ltb a (length w.signs) (omega arith))))
      places false = refl

  -- the signs behind a word
  shift : (n start : ℕ) (w : Word) (ws : List Word) (a k : ℕ) → map (position_from n (w ∷ ws)) (filter (λ s. not (closed (start + s))) (range_with_len (length w.signs + a) k))
      ≡ map (position_from (n + 1) ws) (filter (λ s. not (closed (start + length w.signs + s))) (range_with_len a k))
  shift n start w ws a zero = refl
  shift n start w ws a (suc k) =
      let sign : start + (length w.signs + a) ≡ start + length w.signs + a = omega arith in
      let next : length w.signs + a + 1 ≡ length w.signs + (a + 1) = omega arith in
      ap (λ b. map (position_from n (w ∷ ws)) (cond (not (closed b)) ((length w.signs + a) ∷ filter (λ s. not (closed (start + s))) (range_with_len (length w.signs + a + 1) k))
      (filter (λ s. not (closed (start + s))) (range_with_len (length w.signs + a + 1) k)))) sign
      ∙ by (not (closed (start + length w.signs + a))) (ap (λ b. map (position_from n (w ∷ ws)) (filter (λ s. not (closed (start + s))) (range_with_len b k))) next ∙ shift n start w ws (a + 1) k)
    where
      back : length w.signs + a - length w.signs ≡ a
      back = omega arith

      place : position_from n (w ∷ ws) (length w.signs + a) ≡ position_from (n + 1) ws a
      place =
          ap (λ b. cond b (record { word = n; at = length w.signs + a }) (position_from (n + 1) ws (length w.signs + a - length w.signs))) (le-ltb (length w.signs + a) (length w.signs) (omega arith))
          ∙ ap (position_from (n + 1) ws) back

      by : (b : Bool) → map (position_from n (w ∷ ws)) (filter (λ s. not (closed (start + s))) (range_with_len (length w.signs + a + 1) k))
          ≡ map (position_from (n + 1) ws) (filter (λ s. not (closed (start + length w.signs + s))) (range_with_len (a + 1) k))
          → map (position_from n (w ∷ ws)) (cond b ((length w.signs + a) ∷ filter (λ s. not (closed (start + s))) (range_with_len (length w.signs + a + 1) k))
          (filter (λ s. not (closed (start + s))) (range_with_len (length w.signs + a + 1) k)))
          ≡ map (position_from (n + 1) ws) (cond b (a ∷ filter (λ s. not (closed (start + length w.signs + s))) (range_with_len (a + 1) k))
          (filter (λ s. not (closed (start + length w.signs + s))) (range_with_len (a + 1) k)))
      by true rest = λ i. place i ∷ rest i
      by false rest = rest

  -- the words from one on
  counted_words : (n start : ℕ) (ws : List Word) → ((k : ℕ) (w : Word) → slice_get ws k ≡ Some w → slice_get words (n + k) ≡ Some w)
      → ((k p : ℕ) (w : Word) → slice_get ws k ≡ Some w → p < length w.signs → DotsTell level len m P H w p (λ d. dots d (start + (start_of ws k + p))))
      → flat_map (counted_positions_in m (pass_at level len dot) P H) ws
      ≡ flat_map (counted_of (pass_at level len dot) words) (map (position_from n ws) (filter (λ s. not (closed (start + s))) (range_with_len 0 (sign_count ws))))
  counted_words n start [] place told = refl
  counted_words n start (w ∷ ws) place told =
      let size = length w.signs in
      let f : WordPosition → List CountedPosition = counted_of (pass_at level len dot) words in
      let g : ℕ → WordPosition = position_from n (w ∷ ws) in
      let test : ℕ → Bool = λ s. not (closed (start + s)) in
      let here : slice_get words n ≡ Some w = ap (slice_get words) (let z : n ≡ n + 0 = omega arith in z) ∙ place 0 w refl in
      let behind : 0 + size ≡ size + 0 = omega arith in
      let rest = counted_words (n + 1) (start + size) ws (λ k v at. ap (slice_get words) (let z : n + 1 + k ≡ n + suc k = omega arith in z) ∙ place (suc k) v at)
      (λ k p v at low. subst (λ (s : ℕ). DotsTell level len m P H v p (λ d. dots d s)) (let z : start + (size + start_of ws k + p) ≡ start + size + (start_of ws k + p) = omega arith in z)
      (told (suc k) p v at low)) in
      (λ i. (reach_flat (counted_positions_at (pass_at level len dot) P H w) m.left m.right size
      ∙ counted_word n start w ws here (λ p low. subst (λ (s : ℕ). DotsTell level len m P H w p (λ d. dots d s)) (let z : start + (0 + p) ≡ start + p = omega arith in z) (told 0 p w refl low)) 0 size
      (omega arith)) i
      ++ (rest ∙ ap (flat_map f) (sym (shift n start w ws 0 (sign_count ws)) ∙ ap (λ b. map g (filter test (range_with_len b (sign_count ws)))) (sym behind))) i)
      ∙ sym (flat_map-append f (map g (filter test (range_with_len 0 size))) (map g (filter test (range_with_len (0 + size) (sign_count ws)))))
      ∙ ap (flat_map f) (sym (map-append g (filter test (range_with_len 0 size)) (filter test (range_with_len (0 + size) (sign_count ws)))))
      ∙ ap (λ (xs : List ℕ). flat_map f (map g xs)) (sym (filter-append test (range_with_len 0 size) (range_with_len (0 + size) (sign_count ws))))
      ∙ ap (λ (xs : List ℕ). flat_map f (map g (filter test xs))) (sym (range_append 0 size (sign_count ws)) ∙ ap (range_with_len 0) (sym (signs_cons w ws)))

-- what a pass counts
pub counted_there : (level len dot : ℕ) (m : Alphabet) (words : List Word) (P : Patterns) (H : Hopeless) (dots : ℕ → ℕ → Bool) → len ≤ LENGTH_MAX → dot ≤ len → IsLevelAt level len m words P H dots
    → counted_positions m words (pass_at level len dot) P H ≡ flat_map (counted_of (pass_at level len dot) words) (open_word_positions (dots dot) words)
counted_there level len dot m words P H dots short within is =
    counted_words level len dot m words P H (dots dot) dots (λ s. refl) short within 0 0 words (λ k w at. ap (slice_get words) (zero_plus k) ∙ at)
    (λ k p w at low. subst (λ (s : ℕ). DotsTell level len m P H w p (λ d. dots d s)) (sym (zero_plus (start_of words k + p))) (is.known k p w at low))
    ∙ (λ i. flat_map (counted_of (pass_at level len dot) words) (map (position_from 0 words) (filter (λ s. not (dots dot (zero_plus s i))) (range_with_len 0 (less_none (sign_count words) i)))))
  where
    zero_plus : (k : ℕ) → 0 + k ≡ k
    zero_plus k = omega arith

    less_none : (k : ℕ) → k ≡ k - 0
    less_none k = omega arith

-- how many signs are open: no more than letters
few_in : (test reach : ℕ → Bool) (a n : ℕ) → ((p : ℕ) → a ≤ p → p < a + n → reach p ≡ false → test p ≡ false)
    → length (filter test (range_with_len a n)) ≤ length (flat_map (λ (p : ℕ). cond (reach p) (p ∷ []) []) (range_with_len a n))
few_in test reach a zero out = omega arith
few_in test reach a (suc n) out = by (test a) (reach a) refl refl (few_in test reach (a + 1) n (λ p from before. out p (omega arith) (omega arith)))
  where
    by : (s t : Bool) → test a ≡ s → reach a ≡ t → length (filter test (range_with_len (a + 1) n)) ≤ length (flat_map (λ (p : ℕ). cond (reach p) (p ∷ []) []) (range_with_len (a + 1) n))
        → length (cond s (a ∷ filter test (range_with_len (a + 1) n)) (filter test (range_with_len (a + 1) n))) ≤ length
        (cond t (a ∷ []) [] ++ flat_map (λ (p : ℕ). cond (reach p) (p ∷ []) []) (range_with_len (a + 1) n))
    by true true x y rest = omega arith
    by false true x y rest = omega arith
    by false false x y rest = rest
    by true false x y rest = absurd (let wrong : true ≡ false = sym x ∙ out a (omega arith) (omega arith) y in cc)

singles : (xs : List ℕ) → length (flat_map (λ (p : ℕ). p ∷ []) xs) ≡ length xs
singles [] = refl
singles (x ∷ xs) = ap suc (singles xs)

few_words : (m : Alphabet) (closed : ℕ → Bool) (start : ℕ) (ws : List Word)
    → ((k p : ℕ) (w : Word) → slice_get ws k ≡ Some w → p < length w.signs → is_in_reach m w p ≡ false → closed (start + (start_of ws k + p)) ≡ true)
    → length (filter (λ s. not (closed (start + s))) (range_with_len 0 (sign_count ws))) ≤ number_of_positions m ws
few_words m closed start [] out = omega arith
few_words m closed start (w ∷ ws) out =
    let size = length w.signs in
    let test : ℕ → Bool = λ s. not (closed (start + s)) in
    let here = few_in test (is_in_reach m w) 0 size (λ p from before other. ap not (ap closed (let z : start + p ≡ start + (0 + p) = omega arith in z) ∙ out 0 p w refl (omega arith) other)) in
    let reached = ap (λ (xs : List ℕ). length xs) (reach_flat (λ (p : ℕ). p ∷ []) m.left m.right size) in
    let later = few_words m closed (start + size) ws (λ k p v at low other. ap closed (let z : start + size + (start_of ws k + p) ≡ start + (size + start_of ws k + p) = omega arith in z)
    ∙ out (suc k) p v at low other) in
    let parts : length (filter test (range_with_len 0 (sign_count (w ∷ ws)))) ≡ length (filter test (range_with_len 0 size)) + length (filter test (range_with_len (0 + size) (sign_count ws))) =
    ap (λ (xs : List ℕ). length (filter test xs)) (ap (range_with_len 0) (signs_cons w ws) ∙ range_append 0 size (sign_count ws))
    ∙ ap (λ (xs : List ℕ). length xs) (filter-append test (range_with_len 0 size) (range_with_len (0 + size) (sign_count ws)))
    ∙ length-append (filter test (range_with_len 0 size)) (filter test (range_with_len (0 + size) (sign_count ws))) in
    let moved : length (filter test (range_with_len (0 + size) (sign_count ws))) ≡ length (filter (λ s. not (closed (start + size + s))) (range_with_len 0 (sign_count ws))) =
    ap (λ b. length (filter test (range_with_len b (sign_count ws)))) (let z : 0 + size ≡ size + 0 = omega arith in z) ∙ shifted closed start size 0 (sign_count ws) in
    omega (arith, here, reached, later, parts, moved, singles (positions m.left m.right size), sum_by-cons (λ (v : Word). length (positions m.left m.right (length v.signs))) w ws)
  where
    shifted : (closed : ℕ → Bool) (start size a k : ℕ) → length (filter (λ s. not (closed (start + s))) (range_with_len (size + a) k))
        ≡ length (filter (λ s. not (closed (start + size + s))) (range_with_len a k))
    shifted closed start size a zero = refl
    shifted closed start size a (suc k) =
        let sign : start + (size + a) ≡ start + size + a = omega arith in
        let next : size + a + 1 ≡ size + (a + 1) = omega arith in
        ap (λ b. length (cond (not (closed b)) ((size + a) ∷ filter (λ s. not (closed (start + s))) (range_with_len (size + a + 1) k))
        (filter (λ s. not (closed (start + s))) (range_with_len (size + a + 1) k)))) sign
        ∙ both (not (closed (start + size + a))) (ap (λ b. length (filter (λ s. not (closed (start + s))) (range_with_len b k))) next ∙ shifted closed start size (a + 1) k)
      where
        both : (b : Bool) → length (filter (λ s. not (closed (start + s))) (range_with_len (size + a + 1) k)) ≡ length (filter (λ s. not (closed (start + size + s))) (range_with_len (a + 1) k))
            → length (cond b ((size + a) ∷ filter (λ s. not (closed (start + s))) (range_with_len (size + a + 1) k)) (filter (λ s. not (closed (start + s))) (range_with_len (size + a + 1) k)))
            ≡ length (cond b (a ∷ filter (λ s. not (closed (start + size + s))) (range_with_len (a + 1) k)) (filter (λ s. not (closed (start + size + s))) (range_with_len (a + 1) k)))
        both true rest = ap suc rest
        both false rest = rest

pub few_there : (level len dot : ℕ) (m : Alphabet) (words : List Word) (P : Patterns) (H : Hopeless) (dots : ℕ → ℕ → Bool) → len ≤ LENGTH_MAX → dot ≤ len
    → number_of_positions m words ≤ sum_by letter_count words → IsLevelAt level len m words P H dots
    → length (open_signs (dots dot) 0 (sign_count words)) ≤ sum_by letter_count words
few_there level len dot m words P H dots short within reached is =
    let few = few_words m (dots dot) 0 words (λ k p w at lies other. ap (dots dot) (zero_plus (start_of words k + p)) ∙ (is.known k p w at lies).outside other dot (omega arith)) in
    let same : length (filter (λ s. not (dots dot (0 + s))) (range_with_len 0 (sign_count words))) ≡ length (open_signs (dots dot) 0 (sign_count words)) =
    λ i. length (filter (λ s. not (dots dot (zero_plus s i))) (range_with_len 0 (less_none (sign_count words) i))) in
    omega (arith, few, same)
  where
    zero_plus : (k : ℕ) → 0 + k ≡ k
    zero_plus k = omega arith

    less_none : (k : ℕ) → k ≡ k - 0
    less_none k = omega arith
