-- Entries of strings in their order: what is found after one is put.
use Rattle.std.proofs.Common.{◌≡◌, ◌≢◌, ℕ, ◌⊎◌, inl, inr, Bool, true, false, cond, T, List, [], ◌∷◌, None, Some, refl, sym, ◌∙◌, ap}
use Rattle.std.proofs.lemmas.Bool.{cases_Bool, false≢true}
use Rattle.std.proofs.lemmas.Cmp.{nat_list_cmp_total}
use Rattle.std.specs.declared.cmp.Ordering.{Ordering}
use Rattle.std.specs.declared.cmp.Ordering.TheVariants.{Less, Equal, Greater}
use Rattle.std.specs.Ordering.{nat_cmp, eq_by_cmp, is_eq, is_lt}
use Rattle.std.specs.Cmp.{tied_itself}
use Rattle.std.specs.Cmp.Lexicographic.{slice_cmp}
use Rattle.std.specs.FinMap.{slice_cmp-IsAntisymmetric, nat_cmp-IsAntisymmetric}
use Rattle.std.specs.FinMap.Entries.{find, put, is_sorted, find-put, is_sorted-put, same_entries, below_all}
use Rattle.pg_types.proofs.BoolFacts.{equal_is, first_half, second_half, less_from}

-- the order of strings
abbrev pub order : List ℕ → List ℕ → Ordering
order = slice_cmp nat_cmp

abbrev pub same_string : List ℕ → List ℕ → Bool
same_string q p = eq_by_cmp order q p

pub same_itself : (p : List ℕ) → same_string p p ≡ true
same_itself p = ap is_eq (tied_itself nat_list_cmp_total p)

-- two strings are equal, or they are not
pub equal_or_not : (q p : List ℕ) → ((q ≡ p) × (same_string q p ≡ true)) ⊎ ((q ≢ p) × (same_string q p ≡ false))
equal_or_not q p = elim (cases_Bool (same_string q p)) [
  | inl e ↦ inl (slice_cmp-IsAntisymmetric nat_cmp-IsAntisymmetric q p (equal_is (order q p) e), e)
  | inr e ↦ inr ((λ z. false≢true (sym e ∙ ap (λ x. same_string x p) z ∙ same_itself p)), e)
]

no_less : (o : Ordering) → o ≡ Less → is_eq o ≡ false
no_less Less e = refl
no_less Equal e = cc
no_less Greater e = cc

module _ {X : Type 0} where
  pub find_put_same : (p : List ℕ) (v : X) (es : List (List ℕ × X)) → find order p (put order p v es) ≡ Some v
  find_put_same p v es = find-put order nat_list_cmp_total p p v es ∙ ap (λ b. cond b (Some v) (find order p es)) (same_itself p)

  pub find_put_other : (q p : List ℕ) (v : X) (es : List (List ℕ × X)) → q ≢ p → find order q (put order p v es) ≡ find order q es
  find_put_other q p v es n = find-put order nat_list_cmp_total q p v es ∙ ap (λ b. cond b (Some v) (find order q es)) (by (equal_or_not q p))
    where
      by : ((q ≡ p) × (same_string q p ≡ true)) ⊎ ((q ≢ p) × (same_string q p ≡ false)) → same_string q p ≡ false
      by (inl h) = absurd (n h.0)
      by (inr h) = h.1

  pub sorted_put : (p : List ℕ) (v : X) (es : List (List ℕ × X)) → T (is_sorted order es) → T (is_sorted order (put order p v es))
  sorted_put p v es h = is_sorted-put order nat_list_cmp_total p v es h

  -- two maps that find alike are one
  pub same_maps : (es fs : List (List ℕ × X)) → T (is_sorted order es) → T (is_sorted order fs) → ((q : List ℕ) → find order q es ≡ find order q fs) → es ≡ fs
  same_maps es fs g h is = same_entries order nat_list_cmp_total (slice_cmp-IsAntisymmetric nat_cmp-IsAntisymmetric) es fs g h is

  -- a string below the first of a list in order is not found in the list
  pub find_below : (p : List ℕ) (es : List (List ℕ × X)) → T (below_all order p es) → find order p es ≡ None
  find_below p [] h = refl
  find_below p (e ∷ es) h =
      ap (λ b. cond b (Some e.1) (find order p es)) (no_less (order p e.0) (less_from (order p e.0) (first_half (is_lt (order p e.0)) (below_all order p es) h)))
      ∙ find_below p es (second_half (is_lt (order p e.0)) (below_all order p es) h)

  pub head_below : (e : List ℕ × X) (es : List (List ℕ × X)) → T (is_sorted order (e ∷ es)) → T (below_all order e.0 es)
  head_below e es h = first_half (below_all order e.0 es) (is_sorted order es) h

  pub tail_sorted : (e : List ℕ × X) (es : List (List ℕ × X)) → T (is_sorted order (e ∷ es)) → T (is_sorted order es)
  tail_sorted e es h = second_half (below_all order e.0 es) (is_sorted order es) h
