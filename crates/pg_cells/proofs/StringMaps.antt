-- Maps from strings, as lists of entries in the order of the strings: what is found after an entry is put or taken away.
use Rattle.std.proofs.Common.{◌≡◌, ◌≢◌, ℕ, inl, inr, Bool, true, false, not, cond, ◌&&◌, T, List, [], ◌∷◌, None, Some, sym, ◌∙◌, ap, subst}
use Rattle.std.proofs.lemmas.Bool.{cases_Bool, false≢true, or_cases, or_left, or_right}
use Rattle.std.proofs.lemmas.Cmp.{nat_list_cmp_total}
use Rattle.std.specs.declared.cmp.Ordering.TheVariants.{Less}
use Rattle.std.specs.Ordering.{is_lt}
use Rattle.std.specs.FinMap.{slice_cmp-IsAntisymmetric, nat_cmp-IsAntisymmetric, find, is_sorted}
use Rattle.std.specs.FinMap.Entries.{find-where_key, is_sorted-where_key, below_all}
use Rattle.std.specs.List.{list_any}
use Rattle.pg_types.proofs.BoolFacts.{equal_is, first_half, second_half, less_from}
pub use Rattle.pg_cells.specs.Inside.linked.ValuedFamilies.{without_key}
pub use Rattle.pg_types.proofs.StringEntries.{order, same_string, same_itself, equal_or_not, find_put_same, find_put_other, sorted_put, same_maps, find_below, head_below, tail_sorted}

pub same_from : (q p : List ℕ) → same_string q p ≡ true → q ≡ p
same_from q p e = slice_cmp-IsAntisymmetric nat_cmp-IsAntisymmetric q p (equal_is (order q p) e)

pub same_no : (q p : List ℕ) → q ≢ p → same_string q p ≡ false
same_no q p n = elim (equal_or_not q p) [ inl h ↦ absurd (n h.0) | inr h ↦ h.1 ]

not_swapped : (q p : List ℕ) → not (same_string p q) ≡ not (same_string q p)
not_swapped q p = elim (equal_or_not q p) [
  | inl h ↦ ap not (ap (λ x. same_string p x) h.0 ∙ same_itself p ∙ sym h.1)
  | inr h ↦ ap not (same_no p q (λ z. h.0 (sym z)) ∙ sym h.1)
]

module _ {X : Type 0} where
  find_without : (q p : List ℕ) (es : List (List ℕ × X)) → find order q (without_key p es) ≡ cond (not (same_string q p)) (find order q es) None
  find_without q p es =
      find-where_key order (λ k. not (same_string p k)) q (λ x e. ap (λ k. not (same_string p k)) (sym (slice_cmp-IsAntisymmetric nat_cmp-IsAntisymmetric q x e))) es
      ∙ ap (λ b. cond b (find order q es) None) (not_swapped q p)

  pub find_without_same : (p : List ℕ) (es : List (List ℕ × X)) → find order p (without_key p es) ≡ None
  find_without_same p es = find_without p p es ∙ ap (λ b. cond (not b) (find order p es) None) (same_itself p)

  pub find_without_other : (q p : List ℕ) (es : List (List ℕ × X)) → q ≢ p → find order q (without_key p es) ≡ find order q es
  find_without_other q p es n = find_without q p es ∙ ap (λ b. cond (not b) (find order q es) None) (same_no q p n)

  pub sorted_without : (p : List ℕ) (es : List (List ℕ × X)) → T (is_sorted order es) → T (is_sorted order (without_key p es))
  sorted_without p es h = is_sorted-where_key order (λ k. not (same_string p k)) es h

  pub below_less : (p q : List ℕ) (es : List (List ℕ × X)) → order p q ≡ Less → T (below_all order q es) → T (below_all order p es)
  below_less p q [] e h = tt
  below_less p q (x ∷ xs) e h =
      let here = nat_list_cmp_total.trans p q x.0 e (less_from (order q x.0) (first_half (is_lt (order q x.0)) (below_all order q xs) h)) in
      let rest = below_less p q xs e (second_half (is_lt (order q x.0)) (below_all order q xs) h) in
      subst (λ o. T (is_lt o && below_all order p xs)) (sym here) rest

  -- an entry whose value passes is found at its string
  pub any_found : (es : List (List ℕ × X)) → T (is_sorted order es) → (test : X → Bool) → list_any (λ e. test e.1) es ≡ true → (p : List ℕ) × (v : X) × (find order p es ≡ Some v) × (test v ≡ true)
  any_found [] h test e = absurd (false≢true e)
  any_found (x ∷ xs) h test e = elim (or_cases (test x.1) (list_any (λ e. test e.1) xs) e) [
    | inl here ↦ (x.0, x.1, ap (λ b. cond b (Some x.1) (find order x.0 xs)) (same_itself x.0), here)
    | inr there ↦
        let rest = any_found xs (tail_sorted x xs h) test there in (
          rest.0,
          rest.1,
          elim (equal_or_not rest.0 x.0) [
            | inl same ↦ absurd (let none = find_below x.0 xs (head_below x xs h) in let some = ap (λ q. find order q xs) (sym same.0) ∙ rest.2 in cc)
            | inr other ↦ ap (λ b. cond b (Some x.1) (find order rest.0 xs)) other.1 ∙ rest.2
          ],
          rest.3,
        )
  ]

  -- and what is found is an entry
  pub found_any : (es : List (List ℕ × X)) (test : X → Bool) (p : List ℕ) (v : X) → find order p es ≡ Some v → test v ≡ true → list_any (λ e. test e.1) es ≡ true
  found_any [] test p v at h = cc
  found_any (x ∷ xs) test p v at h = elim (cases_Bool (same_string p x.0)) [
    | inl same ↦
        let value : Some x.1 ≡ Some v = ap (λ b. cond b (Some x.1) (find order p xs)) (sym same) ∙ at in
        let is : x.1 ≡ v = cc in
        or_left (test x.1) (list_any (λ e. test e.1) xs) (ap test is ∙ h)
    | inr other ↦ or_right (test x.1) (list_any (λ e. test e.1) xs) (found_any xs test p v (ap (λ b. cond b (Some x.1) (find order p xs)) (sym other) ∙ at) h)
  ]
