-- What the clauses of an ordered map say of its list of entries.
use Rattle.std.proofs.Common.{◌≡◌, ℕ, suc, zero, Bool, true, false, cond, T, List, [], ◌∷◌, take, Some, None, slice_get, sym, refl, ap, subst, ◌∙◌}
use Rattle.std.specs.declared.cmp.Ordering.{Ordering}
use Rattle.std.specs.declared.cmp.Ordering.TheVariants.{Less, Equal, Greater}
use Rattle.std.specs.Ordering.{is_lt, is_eq, match_ordering, ordering_reverse}
use Rattle.std.specs.Cmp.{IsTotalOrder, tied_itself}
use Rattle.std.specs.FinMap.Entries.{put, find, is_sorted, below_all, by_order}
use Rattle.std.specs.List.{AllByRecursion, filter, list_all}
use Rattle.std.specs.List.Sorted.{IsStrictlySortedBy}
use Rattle.std.specs.Map.{keys_of, set_value}
use Rattle.std.specs.BTreeMap.{insert_entry, is_at}
use Rattle.pg_types.proofs.BoolFacts.{and_first, and_second, is_true, holds, first_half, second_half, less_is, some_is}
use Rattle.std.proofs.lemmas.Bool.{and_from}

module _ {K X : Type 0} (R : K → K → Ordering) where
  below_from : (k : K) (es : List (K × X)) → AllByRecursion (λ q. R k q ≡ Less) (keys_of es) → T (below_all R k es)
  below_from k [] less = tt
  below_from k (e ∷ es) less = holds _ (and_from _ _ (ap is_lt less.0) (is_true _ (below_from k es less.1)))

  -- keys that ascend
  pub sorted_from : (es : List (K × X)) → IsStrictlySortedBy R (keys_of es) → T (is_sorted R es)
  unfolding IsStrictlySortedBy
  sorted_from [] ascend = tt
  sorted_from (e ∷ es) ascend = holds _ (and_from _ _ (is_true _ (below_from e.0 es ascend.0)) (is_true _ (sorted_from es ascend.1)))

  pub insert-put : (k : K) (v : X) (es : List (K × X)) → insert_entry R es k v ≡ put R k v es
  insert-put k v [] = refl
  insert-put k v (e ∷ es) =
      elim (R k e.0) as (λ o. match_ordering o ((k, v) ∷ e ∷ es) ((e.0, v) ∷ es) (e ∷ insert_entry R es k v) ≡ by_order o ((k, v) ∷ e ∷ es) ((e.0, v) ∷ es) (e ∷ put R k v es)) [
        | Less ↦ refl
        | Equal ↦ refl
        | Greater ↦ ap (λ r. e ∷ r) (insert-put k v es)
      ]

  find_below : (k : K) (es : List (K × X)) → T (below_all R k es) → find R k es ≡ None
  find_below k [] below = refl
  find_below k (e ∷ es) below =
      ap (λ r. cond (is_eq r) (Some e.1) (find R k es)) (less_is _ (is_true _ (first_half _ _ below))) ∙ find_below k es (second_half _ _ below)

  -- what is found passes the test that all entries pass
  pub find_good : (good : K × X → Bool) → ((a b : K) → R a b ≡ Equal → a ≡ b) → (k : K) (v : X) (es : List (K × X)) → find R k es ≡ Some v → list_all good es ≡ true → good (k, v) ≡ true
  find_good good exact k v [] found all = cc
  find_good good exact k v (e ∷ es) found all =
      elim (R k e.0) as (λ o. R k e.0 ≡ o → cond (is_eq o) (Some e.1) (find R k es) ≡ Some v → good (k, v) ≡ true) [
        | Less ↦ λ is there. find_good good exact k v es there (and_second _ _ all)
        | Equal ↦ λ is there.
            let key : k ≡ e.0 = exact k e.0 is in
            let value : v ≡ e.1 = sym (some_is e.1 v there) in
            subst (λ x. good (x, v) ≡ true) (sym key) (subst (λ x. good (e.0, x) ≡ true) (sym value) (and_first (good e) (list_all good es) all))
        | Greater ↦ λ is there. find_good good exact k v es there (and_second _ _ all)
      ] refl found

  -- an entry that passes a test is put among others that do
  pub all_put : (good : K × X → Bool) → ((a b : K) → R a b ≡ Equal → a ≡ b) → (k : K) (v : X) (es : List (K × X)) → good (k, v) ≡ true → list_all good es ≡ true → list_all good (put R k v es) ≡ true
  all_put good exact k v [] new all = and_from _ _ new refl
  all_put good exact k v (e ∷ es) new all =
      elim (R k e.0) as (λ o. R k e.0 ≡ o → list_all good (by_order o ((k, v) ∷ e ∷ es) ((e.0, v) ∷ es) (e ∷ put R k v es)) ≡ true) [
        | Less ↦ λ is. and_from _ _ new all
        | Equal ↦ λ is. and_from _ _ (subst (λ x. good (x, v) ≡ true) (exact k e.0 is) new) (and_second (good e) (list_all good es) all)
        | Greater ↦ λ is. and_from _ _ (and_first (good e) (list_all good es) all) (all_put good exact k v es new (and_second (good e) (list_all good es) all))
      ] refl

  above_all : (k : K) (es : List (K × X)) → T (below_all R k es) → filter (λ e. is_lt (R k e.0)) es ≡ es
  above_all k [] below = refl
  above_all k (e ∷ es) below =
      ap (λ b. cond b (e ∷ filter (λ x. is_lt (R k x.0)) es) (filter (λ x. is_lt (R k x.0)) es)) (is_true _ (first_half _ _ below))
      ∙ ap (λ r. e ∷ r) (above_all k es (second_half _ _ below))

  -- the first that is above k is above what is below all
  above_first : (x k : K) (es t : List (K × X)) (e : K × X) → T (below_all R x es) → filter (λ y. is_lt (R k y.0)) es ≡ e ∷ t → R x e.0 ≡ Less
  above_first x k [] t e below cut = cc
  above_first x k (y ∷ es) t e below cut =
      elim (is_lt (R k y.0)) as (λ b. cond b (y ∷ filter (λ z. is_lt (R k z.0)) es) (filter (λ z. is_lt (R k z.0)) es) ≡ e ∷ t → R x e.0 ≡ Less) [
        | true ↦ λ cut. let same : y ≡ e = cc in subst (λ z. R x z.0 ≡ Less) same (less_is _ (is_true _ (first_half _ _ below)))
        | false ↦ λ cut. above_first x k es t e (second_half _ _ below) cut
      ] cut

  module _ (o : IsTotalOrder R) where
    low_below : (x y : K) (es : List (K × X)) → R x y ≡ Less → T (below_all R y es) → T (below_all R x es)
    low_below x y [] less below = tt
    low_below x y (e ∷ es) less below =
        let low : R x e.0 ≡ Less = o.trans x y e.0 less (less_is _ (is_true _ (first_half _ _ below))) in
        holds _ (and_from _ _ (ap is_lt low) (is_true _ (low_below x y es less (second_half _ _ below))))

    -- a value that is written in its place
    pub set_value-put : (k : K) (v w : X) (es : List (K × X)) → T (is_sorted R es) → find R k es ≡ Some w → set_value (is_at (R k)) es v ≡ put R k v es
    set_value-put k v w [] sorted found = cc
    set_value-put k v w (e ∷ es) sorted found =
        elim (R k e.0) as (λ r. R k e.0 ≡ r → cond (is_eq r) (Some e.1) (find R k es) ≡ Some w → cond (is_eq r) ((e.0, v) ∷ es) (e ∷ set_value (is_at (R k)) es v)
        ≡ by_order r ((k, v) ∷ e ∷ es) ((e.0, v) ∷ es) (e ∷ put R k v es)) [
          | Less ↦ λ is there.
              let none : find R k es ≡ None = find_below k es (low_below k e.0 es is (first_half _ _ sorted)) in
              let wrong : None ≡ Some w = sym none ∙ there in
              cc
          | Equal ↦ λ is there. refl
          | Greater ↦ λ is there. ap (λ r. e ∷ r) (set_value-put k v w es (second_half _ _ sorted) there)
        ] refl found

    -- behind the first entry above a key stand those above the entry
    pub above_next : (k : K) (es t : List (K × X)) (e : K × X) → T (is_sorted R es) → filter (λ y. is_lt (R k y.0)) es ≡ e ∷ t → filter (λ y. is_lt (R e.0 y.0)) es ≡ t
    above_next k [] t e sorted cut = cc
    above_next k (x ∷ es) t e sorted cut =
        elim (is_lt (R k x.0)) as (λ b. is_lt (R k x.0) ≡ b → cond b (x ∷ filter (λ y. is_lt (R k y.0)) es) (filter (λ y. is_lt (R k y.0)) es) ≡ e ∷ t → filter (λ y. is_lt (R e.0 y.0)) (x ∷ es) ≡ t) [
          | true ↦ λ is cut.
              let same : x ≡ e = cc in
              let rest : filter (λ y. is_lt (R k y.0)) es ≡ t = cc in
              let less : R k x.0 ≡ Less = less_is _ is in
              let kept : filter (λ y. is_lt (R k y.0)) es ≡ es = above_all k es (low_below k x.0 es less (first_half _ _ sorted)) in
              let itself : filter (λ y. is_lt (R x.0 y.0)) (x ∷ es) ≡ es =
              ap (λ r. cond (is_lt r) (x ∷ filter (λ y. is_lt (R x.0 y.0)) es) (filter (λ y. is_lt (R x.0 y.0)) es)) (tied_itself o x.0) ∙ above_all x.0 es (first_half _ _ sorted) in
              ap (λ z. filter (λ y. is_lt (R z.0 y.0)) (x ∷ es)) (sym same) ∙ itself ∙ sym kept ∙ rest
          | false ↦ λ is cut.
              let before : R x.0 e.0 ≡ Less = above_first x.0 k es t e (first_half _ _ sorted) cut in
              let after : R e.0 x.0 ≡ Greater = o.antisymm e.0 x.0 ∙ ap ordering_reverse before in
              ap (λ r. cond (is_lt r) (x ∷ filter (λ y. is_lt (R e.0 y.0)) es) (filter (λ y. is_lt (R e.0 y.0)) es)) after ∙ above_next k es t e (second_half _ _ sorted) cut
        ] refl cut

    pub below_get : (x k : K) (v : X) (es : List (K × X)) (i : ℕ) → T (below_all R x es) → slice_get es i ≡ Some (k, v) → R x k ≡ Less
    below_get x k v [] zero below there = cc
    below_get x k v [] (suc i) below there = cc
    below_get x k v (e ∷ es) zero below there =
        let same : e ≡ (k, v) = some_is e (k, v) there in
        subst (λ z. R x z.0 ≡ Less) same (less_is _ (is_true _ (first_half _ _ below)))
    below_get x k v (e ∷ es) (suc i) below there = below_get x k v es i (second_half _ _ below) there

    -- the next of a list in order is put behind those before it
    pub put_next : (k : K) (v : X) (es : List (K × X)) (i : ℕ) → T (is_sorted R es) → slice_get es i ≡ Some (k, v) → put R k v (take i es) ≡ take (suc i) es
    put_next k v [] zero sorted there = cc
    put_next k v [] (suc i) sorted there = cc
    put_next k v (e ∷ es) zero sorted there = let same : (k, v) ≡ e = sym (some_is e (k, v) there) in ap (λ z. z ∷ []) same
    put_next k v (e ∷ es) (suc i) sorted there =
        let before : R e.0 k ≡ Less = below_get e.0 k v es i (first_half _ _ sorted) there in
        let after : R k e.0 ≡ Greater = o.antisymm k e.0 ∙ ap ordering_reverse before in
        ap (λ r. by_order r ((k, v) ∷ e ∷ take i es) ((e.0, v) ∷ take i es) (e ∷ put R k v (take i es))) after ∙ ap (λ r. e ∷ r) (put_next k v es i (second_half _ _ sorted) there)
