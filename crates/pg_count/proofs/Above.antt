-- The counts above a string, by what is found.
use Rattle.std.proofs.Common.{◌≡◌, ℕ, Bool, true, false, cond, ◌&&◌, T, List, [], ◌∷◌, Option, None, Some, refl, sym, ◌∙◌, ap, subst}
use Rattle.std.specs.declared.cmp.Ordering.{Ordering}
use Rattle.std.specs.declared.cmp.Ordering.TheVariants.{Less, Equal, Greater}
use Rattle.std.specs.Cmp.Lexicographic.{nat_list_cmp_total}
use Rattle.std.specs.Ordering.{is_lt, is_eq, ordering_reverse}
use Rattle.std.specs.FinMap.{slice_cmp-IsAntisymmetric, nat_cmp-IsAntisymmetric}
use Rattle.std.specs.FinMap.Entries.{find, is_sorted, below_all, find-where_key, is_sorted-where_key}
use Rattle.pg_cells.proofs.StringMaps.{order, same_maps}
use Rattle.pg_types.specs.Inside.counting.Counts.{Counts, windows_above}
use Rattle.pg_types.proofs.BoolFacts.{both_halves}

same_from : (q r : List ℕ) → order q r ≡ Equal → q ≡ r
same_from q r is = slice_cmp-IsAntisymmetric nat_cmp-IsAntisymmetric q r is

turned : (q r : List ℕ) (o : Ordering) → order r q ≡ o → order q r ≡ ordering_reverse o
turned q r o is = nat_list_cmp_total.antisymm q r ∙ ap ordering_reverse is

find_above : (u r : List ℕ) (counts : Counts) → find order r (windows_above u counts) ≡ cond (is_lt (order u r)) (find order r counts) None
find_above u r counts = find-where_key order (λ k. is_lt (order u k)) r (λ x is. ap (λ k. is_lt (order u k)) (sym (same_from r x is))) counts

sorted_above : (u : List ℕ) (counts : Counts) → T (is_sorted order counts) → T (is_sorted order (windows_above u counts))
sorted_above u counts h = is_sorted-where_key order (λ k. is_lt (order u k)) counts h

below_above : (u : List ℕ) (counts : Counts) → T (below_all order u (windows_above u counts))
below_above u [] = tt
below_above u (e ∷ es) = by (is_lt (order u e.0)) refl (below_above u es)
  where
    by : (b : Bool) → is_lt (order u e.0) ≡ b → T (below_all order u (windows_above u es)) → T (below_all order u (cond b (e ∷ windows_above u es) (windows_above u es)))
    by true is rest = subst (λ b. T (b && below_all order u (windows_above u es))) (sym is) rest
    by false is rest = rest

-- no counted window is above u
pub above_none : (u : List ℕ) (counts : Counts) → T (is_sorted order counts) → ((r : List ℕ) (n : ℕ × ℕ) → find order r counts ≡ Some n → order u r ≡ Less → ⊥) → windows_above u counts ≡ []
above_none u counts h none = same_maps (windows_above u counts) [] (sorted_above u counts h) tt (λ r. find_above u r counts ∙ by r (order u r) refl (find order r counts) refl)
  where
    by : (r : List ℕ) (o : Ordering) → order u r ≡ o → (x : Option (ℕ × ℕ)) → find order r counts ≡ x → cond (is_lt o) x None ≡ None
    by r Less is None at = refl
    by r Less is (Some n) at = absurd (none r n at is)
    by r Equal is x at = refl
    by r Greater is x at = refl

-- the counted window q is above u, and none is between
pub above_least : (u q : List ℕ) (n : ℕ × ℕ) (counts : Counts) → T (is_sorted order counts) → find order q counts ≡ Some n → order u q ≡ Less
    → ((r : List ℕ) (m : ℕ × ℕ) → find order r counts ≡ Some m → order u r ≡ Less → order r q ≡ Less → ⊥) → windows_above u counts ≡ (q, n) ∷ windows_above q counts
above_least u q n counts h found over least =
    same_maps (windows_above u counts) ((q, n) ∷ windows_above q counts) (sorted_above u counts h)
    (both_halves (below_all order q (windows_above q counts)) (is_sorted order (windows_above q counts)) (below_above q counts) (sorted_above q counts h))
    (λ r. find_above u r counts ∙ by r (order r q) refl ∙ sym (ap (λ x. cond (is_eq (order r q)) (Some n) x) (find_above q r counts)))
  where
    between : (r : List ℕ) → order r q ≡ Less → (o : Ordering) → order u r ≡ o → (x : Option (ℕ × ℕ)) → find order r counts ≡ x → cond (is_lt o) x None ≡ None
    between r less Less is None at = refl
    between r less Less is (Some m) at = absurd (least r m at is less)
    between r less Equal is x at = refl
    between r less Greater is x at = refl

    by : (r : List ℕ) (o : Ordering) → order r q ≡ o
        → cond (is_lt (order u r)) (find order r counts) None ≡ cond (is_eq (order r q)) (Some n) (cond (is_lt (order q r)) (find order r counts) None)
    by r Less is =
        between r is (order u r) refl (find order r counts) refl
        ∙ sym (ap (λ o. cond (is_eq o) (Some n) (cond (is_lt (order q r)) (find order r counts) None)) is ∙ ap (λ o. cond (is_lt o) (find order r counts) None) (turned q r Less is))
    by r Equal is =
        let same = same_from r q is in
        ap (λ x. cond (is_lt (order u x)) (find order x counts) None) same ∙ ap (λ o. cond (is_lt o) (find order q counts) None) over ∙ found
        ∙ sym (ap (λ o. cond (is_eq o) (Some n) (cond (is_lt (order q r)) (find order r counts) None)) is)
    by r Greater is =
        let later = turned q r Greater is in
        ap (λ o. cond (is_lt o) (find order r counts) None) (nat_list_cmp_total.trans u q r over later)
        ∙ sym (ap (λ o. cond (is_eq o) (Some n) (cond (is_lt (order q r)) (find order r counts) None)) is ∙ ap (λ o. cond (is_lt o) (find order r counts) None) later)
