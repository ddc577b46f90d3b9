-- One sign more in a list of signs, and in a family.
use Rattle.std.proofs.Common.{◌≡◌, ◌≢◌, ℕ, ◌+◌, ◌<◌, ◌≤◌, inl, inr, Bool, true, false, cond, ◌||◌, ◌&&◌, nat_eq, nat_lt, List, [], ◌∷◌, filter, length, suc, zero, refl, sym, ◌∙◌, ap, arith}
use Rattle.std.proofs.lemmas.Bool.{cases_Bool, cases_eq, ne_eqb, lt-ltb, le-ltb, or_parts, eqb-true}
use Rattle.std.specs.List.{list_any, list_all, range_with_len}
use Rattle.pg_types.specs.Inside.PlacementSteps.{with_one_sign}

-- the two tests of a step
pub step_first : (s x : ℕ) (xs : List ℕ) → s < x → with_one_sign s (x ∷ xs) ≡ s ∷ x ∷ xs
step_first s x xs lt = ap (λ b. cond b (s ∷ x ∷ xs) (cond (nat_eq s x) (x ∷ xs) (x ∷ with_one_sign s xs))) (lt-ltb s x lt)

pub step_later : (s x : ℕ) (xs : List ℕ) → x < s → with_one_sign s (x ∷ xs) ≡ x ∷ with_one_sign s xs
step_later s x xs lt =
    ap (λ b. cond b (s ∷ x ∷ xs) (cond (nat_eq s x) (x ∷ xs) (x ∷ with_one_sign s xs))) (le-ltb s x (omega arith))
    ∙ ap (λ b. cond b (x ∷ xs) (x ∷ with_one_sign s xs)) (ne_eqb s x (λ z. omega arith))

-- where all signs are greater, the sign goes first
goes_first : (t : ℕ → Bool) (s b n : ℕ) → s < b → with_one_sign s (filter t (range_with_len b n)) ≡ s ∷ filter t (range_with_len b n)
goes_first t s b zero lt = refl
goes_first t s b (suc n) lt = by (t b) (goes_first t s (b + 1) n (omega arith))
  where
    by : (x : Bool) → with_one_sign s (filter t (range_with_len (b + 1) n)) ≡ s ∷ filter t (range_with_len (b + 1) n)
        → with_one_sign s (cond x (b ∷ filter t (range_with_len (b + 1) n)) (filter t (range_with_len (b + 1) n)))
        ≡ s ∷ cond x (b ∷ filter t (range_with_len (b + 1) n)) (filter t (range_with_len (b + 1) n))
    by true rest = step_first s b (filter t (range_with_len (b + 1) n)) lt
    by false rest = rest

above_same : (t u : ℕ → Bool) (s b n : ℕ) → ((x : ℕ) → 0 < x → x ≢ s → u x ≡ t x) → s < b → filter u (range_with_len b n) ≡ filter t (range_with_len b n)
above_same t u s b zero h lt = refl
above_same t u s b (suc n) h lt = λ i. cond (h b (omega arith) (λ z. omega arith) i) (b ∷ above_same t u s (b + 1) n h (omega arith) i) (above_same t u s (b + 1) n h (omega arith) i)

-- one more number of a range passes
pub filter_more : (t u : ℕ → Bool) (s a n : ℕ) → 0 < a → ((x : ℕ) → 0 < x → x ≢ s → u x ≡ t x) → u s ≡ true → t s ≡ false → a ≤ s → s < a + n
    → filter u (range_with_len a n) ≡ with_one_sign s (filter t (range_with_len a n))
filter_more t u s a zero pos h now was le lt = absurd (omega arith)
filter_more t u s a (suc n) pos h now was le lt = elim (cases_eq a s) [
  | inl e ↦
      let here : u a ≡ true = ap u e ∙ now in
      let before : t a ≡ false = ap t e ∙ was in
      ap (λ b. cond b (a ∷ filter u (range_with_len (a + 1) n)) (filter u (range_with_len (a + 1) n))) here
      ∙ (λ i. e i ∷ above_same t u s (a + 1) n h (omega arith) i)
      ∙ sym (goes_first t s (a + 1) n (omega arith))
      ∙ ap (λ b. with_one_sign s (cond b (a ∷ filter t (range_with_len (a + 1) n)) (filter t (range_with_len (a + 1) n)))) (sym before)
  | inr other ↦
      let rest = filter_more t u s (a + 1) n (omega arith) h now was (omega arith) (omega arith) in
      ap (λ b. cond b (a ∷ filter u (range_with_len (a + 1) n)) (filter u (range_with_len (a + 1) n))) (h a pos other)
      ∙ either (t a) (omega arith) rest
]
  where
    either : (b : Bool) → a < s → filter u (range_with_len (a + 1) n) ≡ with_one_sign s (filter t (range_with_len (a + 1) n))
        → cond b (a ∷ filter u (range_with_len (a + 1) n)) (filter u (range_with_len (a + 1) n))
        ≡ with_one_sign s (cond b (a ∷ filter t (range_with_len (a + 1) n)) (filter t (range_with_len (a + 1) n)))
    either true lt rest = ap (λ l. a ∷ l) rest ∙ sym (step_later s a (filter t (range_with_len (a + 1) n)) lt)
    either false lt rest = rest

-- a list that lacks the sign is one longer with it
pub length_one_more : (s : ℕ) (xs : List ℕ) → list_any (nat_eq s) xs ≡ false → length (with_one_sign s xs) ≡ length xs + 1
length_one_more s [] e = refl
length_one_more s (x ∷ xs) e =
    let parts = or_parts (nat_eq s x) (list_any (nat_eq s) xs) e in
    let rest = length_one_more s xs parts.1 in
    elim (cases_Bool (nat_lt s x)) [
      | inl less ↦ ap (λ b. length (cond b (s ∷ x ∷ xs) (cond (nat_eq s x) (x ∷ xs) (x ∷ with_one_sign s xs)))) less ∙ omega arith
      | inr more ↦
          ap (λ b. length (cond b (s ∷ x ∷ xs) (cond (nat_eq s x) (x ∷ xs) (x ∷ with_one_sign s xs)))) more
          ∙ ap (λ b. length (cond b (x ∷ xs) (x ∷ with_one_sign s xs))) parts.0 ∙ omega arith
    ]

-- which signs a list with one more has
pub any_one_more : (s y : ℕ) (xs : List ℕ) → list_any (nat_eq y) (with_one_sign s xs) ≡ (nat_eq y s || list_any (nat_eq y) xs)
any_one_more s y [] = refl
any_one_more s y (x ∷ xs) = elim (cases_Bool (nat_lt s x)) [
  | inl less ↦ ap (λ b. list_any (nat_eq y) (cond b (s ∷ x ∷ xs) (cond (nat_eq s x) (x ∷ xs) (x ∷ with_one_sign s xs)))) less
  | inr more ↦
      ap (λ b. list_any (nat_eq y) (cond b (s ∷ x ∷ xs) (cond (nat_eq s x) (x ∷ xs) (x ∷ with_one_sign s xs)))) more
      ∙ elim (cases_Bool (nat_eq s x)) [
        | inl same ↦ ap (λ b. list_any (nat_eq y) (cond b (x ∷ xs) (x ∷ with_one_sign s xs))) same
            ∙ shown (nat_eq y x) (list_any (nat_eq y) xs) ∙ ap (λ z. nat_eq y z || (nat_eq y x || list_any (nat_eq y) xs)) (sym (eqb-true s x same))
        | inr other ↦ ap (λ b. list_any (nat_eq y) (cond b (x ∷ xs) (x ∷ with_one_sign s xs))) other
            ∙ ap (λ b. nat_eq y x || b) (any_one_more s y xs) ∙ swapped (nat_eq y x) (nat_eq y s) (list_any (nat_eq y) xs)
      ]
]
  where
    shown : (a b : Bool) → (a || b) ≡ (a || (a || b))
    shown true b = refl
    shown false b = refl

    swapped : (a b c : Bool) → (a || (b || c)) ≡ (b || (a || c))
    swapped true true c = refl
    swapped true false c = refl
    swapped false b c = refl

-- a test of all signs of a list with one more
pub all_one_more : (t : ℕ → Bool) (s : ℕ) (xs : List ℕ) → list_all t (with_one_sign s xs) ≡ (t s && list_all t xs)
all_one_more t s [] = refl
all_one_more t s (x ∷ xs) = elim (cases_Bool (nat_lt s x)) [
  | inl less ↦ ap (λ b. list_all t (cond b (s ∷ x ∷ xs) (cond (nat_eq s x) (x ∷ xs) (x ∷ with_one_sign s xs)))) less
  | inr more ↦
      ap (λ b. list_all t (cond b (s ∷ x ∷ xs) (cond (nat_eq s x) (x ∷ xs) (x ∷ with_one_sign s xs)))) more
      ∙ elim (cases_Bool (nat_eq s x)) [
        | inl same ↦ ap (λ b. list_all t (cond b (x ∷ xs) (x ∷ with_one_sign s xs))) same
            ∙ shown (t x) (list_all t xs) ∙ ap (λ z. t z && (t x && list_all t xs)) (sym (eqb-true s x same))
        | inr other ↦ ap (λ b. list_all t (cond b (x ∷ xs) (x ∷ with_one_sign s xs))) other
            ∙ ap (λ b. t x && b) (all_one_more t s xs) ∙ swapped (t x) (t s) (list_all t xs)
      ]
]
  where
    shown : (a b : Bool) → (a && b) ≡ (a && (a && b))
    shown true b = refl
    shown false b = refl

    swapped : (a b c : Bool) → (a && (b && c)) ≡ (b && (a && c))
    swapped true b c = refl
    swapped false true c = refl
    swapped false false c = refl
