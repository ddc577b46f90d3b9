-- Lists of entries in order, cut at the place of a key.
use Rattle.std.proofs.Common.{◌≡◌, ℕ, suc, zero, ◌<◌, ◌≤◌, Bool, true, false, cond, T, List, [], ◌∷◌, ◌++◌, length, drop, take, get_or, Some, None, refl, ap, ◌∙◌, arith}
use Rattle.std.specs.declared.cmp.Ordering.{Ordering}
use Rattle.std.specs.declared.cmp.Ordering.TheVariants.{Less}
use Rattle.std.specs.Ordering.{is_lt, is_eq, is_gt, ordering_reverse}
use Rattle.std.specs.Cmp.{IsTotalOrder}
use Rattle.std.specs.FinMap.Entries.{put, find, is_sorted, below_all, by_order}
use Rattle.std.specs.List.{list_all}
use Rattle.pg_types.proofs.BoolFacts.{is_true, holds, and_first, and_second, first_half, second_half, less_is, greater_is, equal_is, less_left}
use Rattle.std.proofs.lemmas.Bool.{and_from}

module _ {K : Type 0} (R : K → K → Ordering) (o : IsTotalOrder R) where
  -- what is after a key is after each key below it
  pub after_below : (a b k : K) → R a b ≡ Less → is_gt (R k b) ≡ true → is_gt (R k a) ≡ true
  after_below a b k below after =
      let turned : R b k ≡ Less = o.antisymm b k ∙ ap ordering_reverse (greater_is _ after) in
      let low : R a k ≡ Less = o.trans a b k below turned in
      ap is_gt (o.antisymm k a ∙ ap ordering_reverse low)

module _ {K X : Type 0} (R : K → K → Ordering) where
  -- the key comes after that of the first entry
  abbrev pub first_before : K → List (K × X) → Bool
  first_before k [] = false
  first_before k (e ∷ es) = is_gt (R k e.0)

  -- the key is that of the first entry
  abbrev pub first_at : K → List (K × X) → Bool
  first_at k [] = false
  first_at k (e ∷ es) = is_eq (R k e.0)

  pub below_at : (x : K) (es : List (K × X)) (j : ℕ) (d : K × X) → T (below_all R x es) → j < length es → R x (get_or es j d).0 ≡ Less
  below_at x [] j d below inside = absurd (omega arith)
  below_at x (e ∷ es) zero d below inside = less_is _ (is_true _ (first_half _ _ below))
  below_at x (e ∷ es) (suc j) d below inside = below_at x es j d (second_half _ _ below) (omega arith)

  pub sorted_at : (es : List (K × X)) (i j : ℕ) (d : K × X) → T (is_sorted R es) → i < j → j < length es → R (get_or es i d).0 (get_or es j d).0 ≡ Less
  sorted_at [] i j d sorted less inside = absurd (omega arith)
  sorted_at (e ∷ es) i zero d sorted less inside = absurd (omega arith)
  sorted_at (e ∷ es) zero (suc j) d sorted less inside = below_at e.0 es j d (first_half _ _ sorted) (omega arith)
  sorted_at (e ∷ es) (suc i) (suc j) d sorted less inside = sorted_at es i j d (second_half _ _ sorted) (omega arith) (omega arith)

  pub sorted_drop : (es : List (K × X)) (i : ℕ) → T (is_sorted R es) → T (is_sorted R (drop i es))
  sorted_drop es zero sorted = sorted
  sorted_drop [] (suc i) sorted = tt
  sorted_drop (e ∷ es) (suc i) sorted = sorted_drop es i (second_half _ _ sorted)

  -- a key that is below all is not found
  pub find_below : (k : K) (es : List (K × X)) → T (below_all R k es) → find R k es ≡ None
  find_below k [] below = refl
  find_below k (e ∷ es) below =
      ap (λ r. cond (is_eq r) (Some e.1) (find R k es)) (less_is _ (is_true _ (first_half _ _ below))) ∙ find_below k es (second_half _ _ below)

  -- entries before the key do not change what is found
  pub find_over : (k : K) (before rest : List (K × X)) → list_all (λ e. is_gt (R k e.0)) before ≡ true → find R k (before ++ rest) ≡ find R k rest
  find_over k [] rest after = refl
  find_over k (e ∷ es) rest after =
      ap (λ r. cond (is_eq r) (Some e.1) (find R k (es ++ rest))) (greater_is _ (and_first _ _ after)) ∙ find_over k es rest (and_second _ _ after)

  -- a key is put behind the entries before it
  pub put_over : (k : K) (v : X) (before rest : List (K × X)) → list_all (λ e. is_gt (R k e.0)) before ≡ true → put R k v (before ++ rest) ≡ before ++ put R k v rest
  put_over k v [] rest after = refl
  put_over k v (e ∷ es) rest after =
      ap (λ r. by_order r ((k, v) ∷ e ∷ es ++ rest) ((e.0, v) ∷ es ++ rest) (e ∷ put R k v (es ++ rest))) (greater_is _ (and_first _ _ after))
      ∙ ap (λ t. e ∷ t) (put_over k v es rest (and_second _ _ after))

  -- where the key is that of the first entry
  pub put_there : (k : K) (v : X) (e : K × X) (es : List (K × X)) → is_eq (R k e.0) ≡ true → put R k v (e ∷ es) ≡ (e.0, v) ∷ es
  put_there k v e es same = ap (λ r. by_order r ((k, v) ∷ e ∷ es) ((e.0, v) ∷ es) (e ∷ put R k v es)) (equal_is _ same)

  pub find_there : (k : K) (e : K × X) (es : List (K × X)) → is_eq (R k e.0) ≡ true → find R k (e ∷ es) ≡ Some e.1
  find_there k e es same = ap (λ t. cond t (Some e.1) (find R k es)) same

  -- where the key is before all
  pub put_gap : (k : K) (v : X) (es : List (K × X)) → first_before k es ≡ false → first_at k es ≡ false → put R k v es ≡ (k, v) ∷ es
  put_gap k v [] before at = refl
  put_gap k v (e ∷ es) before at = ap (λ r. by_order r ((k, v) ∷ e ∷ es) ((e.0, v) ∷ es) (e ∷ put R k v es)) (less_left _ before at)

  -- the entries before a place, from a fact for each index
  pub all_before : (k : K) (es : List (K × X)) (i : ℕ) → i ≤ length es → ((j : ℕ) (d : K × X) → 0 ≤ j → j < i → is_gt (R k (get_or es j d).0) ≡ true)
      → list_all (λ e. is_gt (R k e.0)) (take i es) ≡ true
  all_before k es zero within after = refl
  all_before k [] (suc i) within after = refl
  all_before k (e ∷ es) (suc i) within after =
      and_from _ _ (after 0 e (omega arith) (omega arith)) (all_before k es i (omega arith) (λ j d low high. after (suc j) d (omega arith) (omega arith)))

  pub first_not_before : (k : K) (es : List (K × X)) (i : ℕ) → ((d : K × X) → i < length es → is_gt (R k (get_or es i d).0) ≡ false) → first_before k (drop i es) ≡ false
  first_not_before k [] zero after = refl
  first_not_before k [] (suc i) after = refl
  first_not_before k (e ∷ es) zero after = after e (omega arith)
  first_not_before k (e ∷ es) (suc i) after = first_not_before k es i (λ d inside. after d (omega arith))

  module _ (o : IsTotalOrder R) where
    below_all_less : (x y : K) (es : List (K × X)) → R x y ≡ Less → T (below_all R y es) → T (below_all R x es)
    below_all_less x y [] less below = tt
    below_all_less x y (e ∷ es) less below =
        let low : R x e.0 ≡ Less = o.trans x y e.0 less (less_is _ (is_true _ (first_half _ _ below))) in
        holds _ (and_from _ _ (ap is_lt low) (is_true _ (below_all_less x y es less (second_half _ _ below))))

    -- a key that is before all is below all
    pub find_gap : (k : K) (es : List (K × X)) → T (is_sorted R es) → first_before k es ≡ false → first_at k es ≡ false → find R k es ≡ None
    find_gap k [] sorted before at = refl
    find_gap k (e ∷ es) sorted before at =
        let less : R k e.0 ≡ Less = less_left _ before at in
        find_below k (e ∷ es) (holds _ (and_from _ _ (ap is_lt less) (is_true _ (below_all_less k e.0 es less (first_half _ _ sorted)))))

    -- what comes after an entry comes after those before it
    pub after_at : (k : K) (es : List (K × X)) (i j : ℕ) (d : K × X) → T (is_sorted R es) → i ≤ j → j < length es → is_gt (R k (get_or es j d).0) ≡ true → is_gt (R k (get_or es i d).0) ≡ true
    after_at k [] i j d sorted upto inside after = absurd (omega arith)
    after_at k (e ∷ es) zero zero d sorted upto inside after = after
    after_at k (e ∷ es) zero (suc j) d sorted upto inside after = after_below R o e.0 (get_or es j d).0 k (below_at e.0 es j d (first_half _ _ sorted) (omega arith)) after
    after_at k (e ∷ es) (suc i) zero d sorted upto inside after = absurd (omega arith)
    after_at k (e ∷ es) (suc i) (suc j) d sorted upto inside after = after_at k es i j d (second_half _ _ sorted) (omega arith) (omega arith) after
