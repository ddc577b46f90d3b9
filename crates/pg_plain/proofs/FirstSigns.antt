-- Strings compare as the numbers of their first four signs do, where these differ.
use Rattle.std.proofs.Common.{◌≡◌, ◌≢◌, ℕ, ◌+◌, ◌*◌, ◌<◌, List, [], ◌∷◌, get_or, drop, nat_cmp, refl, sym, ap, ◌∙◌, arith}
use Rattle.std.proofs.lemmas.List.{get_or-drop, drop-drop}
use Rattle.std.specs.declared.cmp.Ordering.TheVariants.{Less, Equal, Greater}
use Rattle.std.specs.Cmp.{nat_cmp_is, ranks}
use Rattle.std.specs.Cmp.Lexicographic.{slice_cmp}
use Rattle.std.specs.FinMap.{nat_cmp-IsAntisymmetric}
use Rattle.std.specs.declared.cmp.Ordering.{Ordering}
use Rattle.std.specs.Ordering.{MatchOrdering, ordering_then}
use Rattle.pg_plain.specs.Inside.Keys.{four_packed, HasFirstSigns}

-- ---- orders one after the other

then_assoc : (a b c : Ordering) → ordering_then (ordering_then a b) c ≡ ordering_then a (ordering_then b c)
then_assoc Less b c = refl
then_assoc Equal b c = refl
then_assoc Greater b c = refl

then_equal : (a : Ordering) → ordering_then a Equal ≡ a
then_equal Less = refl
then_equal Equal = refl
then_equal Greater = refl

-- the comparison of different numbers decides
pub decided : (x y : ℕ) (r : Ordering) → x ≢ y → ordering_then (nat_cmp x y) r ≡ nat_cmp x y
decided x y r other = by (nat_cmp x y) (ranks x y)
  where
    by : (o : Ordering) → MatchOrdering o (x < y) (x ≡ y) (y < x) → ordering_then o r ≡ o
    by Less h = refl
    by Equal h = absurd (other h)
    by Greater h = refl

-- and that of equal ones does not
pub tied : (x y : ℕ) (r : Ordering) → x ≡ y → ordering_then (nat_cmp x y) r ≡ r
tied x y r same = ap (λ o. ordering_then o r) (sym (nat_cmp_is x y Equal same))

-- ---- a number with one more sign behind

behind : (x y p q : ℕ) → y < 65536 → q < 65536 → nat_cmp (x * 65536 + y) (p * 65536 + q) ≡ ordering_then (nat_cmp x p) (nat_cmp y q)
behind x y p q low small = by (nat_cmp x p) (ranks x p)
  where
    by : (o : Ordering) → MatchOrdering o (x < p) (x ≡ p) (p < x) → nat_cmp (x * 65536 + y) (p * 65536 + q) ≡ ordering_then o (nat_cmp y q)
    by Less h = sym (nat_cmp_is (x * 65536 + y) (p * 65536 + q) Less (omega arith))
    by Greater h = sym (nat_cmp_is (x * 65536 + y) (p * 65536 + q) Greater (omega arith))
    by Equal h = by_second (nat_cmp y q) refl (ranks y q)
      where
        by_second : (o : Ordering) → nat_cmp y q ≡ o → MatchOrdering o (y < q) (y ≡ q) (q < y) → nat_cmp (x * 65536 + y) (p * 65536 + q) ≡ nat_cmp y q
        by_second Less is k = sym (nat_cmp_is (x * 65536 + y) (p * 65536 + q) Less (omega arith)) ∙ sym is
        by_second Equal is k = sym (nat_cmp_is (x * 65536 + y) (p * 65536 + q) Equal (omega arith)) ∙ sym is
        by_second Greater is k = sym (nat_cmp_is (x * 65536 + y) (p * 65536 + q) Greater (omega arith)) ∙ sym is

-- ---- a string sign by sign

sign_behind : (n : ℕ) (u : List ℕ) → get_or (drop n u) 0 0 ≡ get_or u n 0
sign_behind n u = let none : n + 0 ≡ n = omega arith in get_or-drop n u 0 0 ∙ ap (λ i. get_or u i 0) none

rest_behind : (n m : ℕ) (u : List ℕ) → n + 1 ≡ m → drop 1 (drop n u) ≡ drop m u
rest_behind n m u next = drop-drop 1 n u ∙ ap (λ i. drop i u) next

-- how two strings compare at a sign
abbrev at : List ℕ → List ℕ → ℕ → Ordering
at u v n = nat_cmp (get_or u n 0) (get_or v n 0)

module _ (u v : List ℕ) (small : (i : ℕ) → get_or u i 0 < 65536) (low : (i : ℕ) → get_or v i 0 < 65536) where
  numbers_first : nat_cmp (four_packed u) (four_packed v) ≡ ordering_then (ordering_then (ordering_then (at u v 0) (at u v 1)) (at u v 2)) (at u v 3)
  unfolding four_packed
  numbers_first =
      behind _ (get_or u 3 0) _ (get_or v 3 0) (small 3) (low 3)
      ∙ ap (λ o. ordering_then o (at u v 3)) (behind _ (get_or u 2 0) _ (get_or v 2 0) (small 2) (low 2)
      ∙ ap (λ o. ordering_then o (at u v 2)) (behind (get_or u 0 0) (get_or u 1 0) (get_or v 0 0) (get_or v 1 0) (small 1) (low 1)))

-- the number of the first four signs
pub four_first : (u : List ℕ) (a b c d : ℕ) → a ≡ get_or u 0 0 → b ≡ get_or u 1 0 → c ≡ get_or u 2 0 → d ≡ get_or u 3 0 → ((a * 65536 + b) * 65536 + c) * 65536 + d ≡ four_packed u
unfolding four_packed
four_first u a b c d one two three four = λ i. ((one i * 65536 + two i) * 65536 + three i) * 65536 + four i

-- ---- where the first four signs differ

-- the first order that is not equal decides
then_first : (o rest r : Ordering) → o ≡ r → r ≢ Equal → ordering_then o rest ≡ r
then_first Less rest r is other = is
then_first Equal rest r is other = absurd (other (sym is))
then_first Greater rest r is other = is

first_differs : (u v : List ℕ) (r : Ordering) → at u v 0 ≡ r → r ≢ Equal → slice_cmp nat_cmp u v ≡ r
first_differs [] [] r is other = absurd (other (sym is))
first_differs [] (y ∷ v) r is other = by (nat_cmp 0 y) (ranks 0 y) is
  where
    by : (o : Ordering) → MatchOrdering o (0 < y) (0 ≡ y) (y < 0) → o ≡ r → Less ≡ r
    by Less h is = is
    by Equal h is = absurd (other (sym is))
    by Greater h is = absurd (omega arith)
first_differs (x ∷ u) [] r is other = by (nat_cmp x 0) (ranks x 0) is
  where
    by : (o : Ordering) → MatchOrdering o (x < 0) (x ≡ 0) (0 < x) → o ≡ r → Greater ≡ r
    by Less h is = absurd (omega arith)
    by Equal h is = absurd (other (sym is))
    by Greater h is = is
first_differs (x ∷ u) (y ∷ v) r is other = then_first (nat_cmp x y) (slice_cmp nat_cmp u v) r is other

later_differs : (u v : List ℕ) (r : Ordering) → get_or u 0 0 ≡ get_or v 0 0 → r ≢ Equal → slice_cmp nat_cmp (drop 1 u) (drop 1 v) ≡ r → slice_cmp nat_cmp u v ≡ r
later_differs [] [] r same other is = is
later_differs [] (y ∷ []) r same other is = absurd (other (sym is))
later_differs [] (y ∷ z ∷ v) r same other is = is
later_differs (x ∷ []) [] r same other is = absurd (other (sym is))
later_differs (x ∷ z ∷ u) [] r same other is = is
later_differs (x ∷ u) (y ∷ v) r same other is = tied x y (slice_cmp nat_cmp u v) same ∙ is

differs : (u v : List ℕ) (o r : Ordering) → r ≢ Equal → ordering_then (at u v 0) o ≡ r → (o ≡ r → slice_cmp nat_cmp (drop 1 u) (drop 1 v) ≡ r) → slice_cmp nat_cmp u v ≡ r
differs u v o r other is rest = by (at u v 0) refl (ranks (get_or u 0 0) (get_or v 0 0)) is
  where
    by : (k : Ordering) → at u v 0 ≡ k → MatchOrdering k (get_or u 0 0 < get_or v 0 0) (get_or u 0 0 ≡ get_or v 0 0) (get_or v 0 0 < get_or u 0 0) → ordering_then k o ≡ r
        → slice_cmp nat_cmp u v ≡ r
    by Less e h is = first_differs u v r (e ∙ is) other
    by Equal e h is = later_differs u v r h other (rest is)
    by Greater e h is = first_differs u v r (e ∙ is) other

module _ (u v : List ℕ) (r : Ordering) (other : r ≢ Equal) where
  differs_from : (n m : ℕ) (o : Ordering) → n + 1 ≡ m → ordering_then (at u v n) o ≡ r → (o ≡ r → slice_cmp nat_cmp (drop m u) (drop m v) ≡ r) → slice_cmp nat_cmp (drop n u) (drop n v) ≡ r
  differs_from n m o next is rest =
      differs (drop n u) (drop n v) o r other ((λ i. ordering_then (nat_cmp (sign_behind n u i) (sign_behind n v i)) o) ∙ is)
      (λ k. (λ i. slice_cmp nat_cmp (rest_behind n m u next i) (rest_behind n m v next i)) ∙ rest k)

  four_differ : ordering_then (at u v 0) (ordering_then (at u v 1) (ordering_then (at u v 2) (at u v 3))) ≡ r → slice_cmp nat_cmp u v ≡ r
  four_differ is =
      differs_from 0 1 (ordering_then (at u v 1) (ordering_then (at u v 2) (at u v 3))) refl is
      (λ one. differs_from 1 2 (ordering_then (at u v 2) (at u v 3)) refl one
      (λ two. differs_from 2 3 (at u v 3) refl two
      (λ three. differs_from 3 4 Equal refl (then_equal (at u v 3) ∙ three) (λ four. absurd (other (sym four))))))

-- strings compare as the numbers of their first four signs do, where these differ
pub heads_differ : (n m : ℕ) (u v : List ℕ) → HasFirstSigns n u → HasFirstSigns m v → n ≢ m → slice_cmp nat_cmp u v ≡ nat_cmp n m
heads_differ n m u v x y other =
    let apart : nat_cmp n m ≢ Equal = λ same. other (nat_cmp-IsAntisymmetric n m same) in
    four_differ u v (nat_cmp n m) apart
    (sym ((λ i. nat_cmp (x.is i) (y.is i)) ∙ numbers_first u v x.small y.small
    ∙ then_assoc (ordering_then (at u v 0) (at u v 1)) (at u v 2) (at u v 3) ∙ then_assoc (at u v 0) (at u v 1) (ordering_then (at u v 2) (at u v 3))))
