-- The order of signs around the strings that begin with given signs.
use Rattle.std.proofs.Common.{◌≡◌, ℕ, ◌<◌, ◌≤◌, true, false, not, T, List, [], ◌∷◌, nat_eq, nat_cmp, sym, refl, ap, subst, ◌∙◌, arith}
use Rattle.std.proofs.lemmas.Bool.{eqb-true, eq-eqb, and_from}
use Rattle.std.proofs.lemmas.Cmp.{ranked}
use Rattle.std.specs.declared.cmp.Ordering.{Ordering}
use Rattle.std.specs.declared.cmp.Ordering.TheVariants.{Less, Equal, Greater}
use Rattle.std.specs.Cmp.{tied_itself, nat_cmp_total}
use Rattle.std.specs.Cmp.Lexicographic.{slice_cmp, nat_list_cmp_total}
use Rattle.std.specs.Ordering.{is_lt, is_le, is_gt, ordering_then, ordering_reverse, MatchOrdering}
use Rattle.std.specs.FinMap.{nat_cmp-IsAntisymmetric, slice_cmp-IsAntisymmetric}
use Rattle.std.specs.FinMap.Entries.{below_all}
use Rattle.std.specs.List.{starts_with, list_all}
use Rattle.pg_patterns.specs.DottedSigns.{dotted_cmp}
use Rattle.pg_types.proofs.BoolFacts.{and_first, and_second, is_true, first_half, second_half}

-- the strings are not after themselves
pub upto_itself : (q : List ℕ) → is_gt (slice_cmp nat_cmp q q) ≡ false
upto_itself q = ap is_gt (tied_itself nat_list_cmp_total q)

tied_signs : (a b : ℕ) → a ≡ b → nat_cmp a b ≡ Equal
tied_signs a b same = subst (λ x. nat_cmp a x ≡ Equal) same (tied_itself nat_cmp_total a)

-- a string is not after one that begins with it
pub prefix_upto : (q r : List ℕ) → starts_with nat_eq r q ≡ true → is_gt (slice_cmp nat_cmp q r) ≡ false
prefix_upto [] [] start = refl
prefix_upto [] (y ∷ r) start = refl
prefix_upto (x ∷ q) [] start = cc
prefix_upto (x ∷ q) (y ∷ r) start =
    ap (λ s. is_gt (ordering_then s (slice_cmp nat_cmp q r))) (tied_signs x y (eqb-true x y (and_first _ _ start)))
    ∙ prefix_upto q r (and_second _ _ start)

signs_upto : (a b : ℕ) (r s : Ordering) → MatchOrdering r (a < b) (a ≡ b) (b < a) → is_gt (ordering_then r s) ≡ false → a ≤ b
signs_upto a b Less s rank upto = omega arith
signs_upto a b Equal s rank upto = omega arith
signs_upto a b Greater s rank upto = cc

rest_upto : (a b : ℕ) (s : Ordering) → a ≡ b → is_gt (ordering_then (nat_cmp a b) s) ≡ false → is_gt s ≡ false
rest_upto a b s same upto = sym (ap (λ r. is_gt (ordering_then r s)) (tied_signs a b same)) ∙ upto

between_signs : (a b c : ℕ) → a ≤ b → b ≤ c → a ≡ c → a ≡ b
between_signs a b c low high same = omega arith

-- between a string and one that begins with it, all begin with it
pub prefix_between : (q e y : List ℕ) → is_gt (slice_cmp nat_cmp q e) ≡ false → is_gt (slice_cmp nat_cmp e y) ≡ false → starts_with nat_eq y q ≡ true → starts_with nat_eq e q ≡ true
prefix_between [] e y low high start = refl
prefix_between (a ∷ q) [] y low high start = cc
prefix_between (a ∷ q) (b ∷ e) [] low high start = cc
prefix_between (a ∷ q) (b ∷ e) (c ∷ y) low high start =
    let ends : a ≡ c = eqb-true a c (and_first _ _ start) in
    let from : a ≤ b = signs_upto a b (nat_cmp a b) (slice_cmp nat_cmp q e) (ranked a b _ refl) low in
    let upto : b ≤ c = signs_upto b c (nat_cmp b c) (slice_cmp nat_cmp e y) (ranked b c _ refl) high in
    let same : a ≡ b = between_signs a b c from upto ends in
    and_from _ _ (eq-eqb a b same)
    (prefix_between q e y (rest_upto a b _ same low) (rest_upto b c _ (sym same ∙ ends) high) (and_second _ _ start))

-- two strings of which neither is after the other
pub both_upto : (q r : List ℕ) → is_gt (slice_cmp nat_cmp q r) ≡ false → is_gt (slice_cmp nat_cmp r q) ≡ false → q ≡ r
both_upto q r low high = by_order (slice_cmp nat_cmp q r) refl low
  where
    by_order : (o : Ordering) → slice_cmp nat_cmp q r ≡ o → is_gt o ≡ false → q ≡ r
    by_order Less is low =
        let turned : slice_cmp nat_cmp r q ≡ Greater = nat_list_cmp_total.antisymm r q ∙ ap ordering_reverse is in
        let wrong : true ≡ false = sym (ap is_gt turned) ∙ high in
        cc
    by_order Equal is low = slice_cmp-IsAntisymmetric nat_cmp-IsAntisymmetric q r is
    by_order Greater is low = cc

first_dot : (d : ℕ) → is_le (nat_cmp 0 d) ≡ true
first_dot d = by_rank (nat_cmp 0 d) (ranked 0 d _ refl)
  where
    by_rank : (r : Ordering) → MatchOrdering r (0 < d) (0 ≡ d) (d < 0) → is_le r ≡ true
    by_rank Less rank = refl
    by_rank Equal rank = refl
    by_rank Greater rank = absurd (omega arith)

then_upto : (r s : Ordering) → is_gt r ≡ false → is_le s ≡ true → is_le (ordering_then r s) ≡ true
then_upto Less s low first = refl
then_upto Equal s low first = first
then_upto Greater s low first = sym low

-- the dotted strings of strings that are not before q do not come before the first dot of q
pub from_string : (q : List ℕ) (k : List ℕ × ℕ) → is_gt (slice_cmp nat_cmp q k.0) ≡ false → is_le (dotted_cmp (q, 0) k) ≡ true
from_string q k low = then_upto (slice_cmp nat_cmp q k.0) (nat_cmp 0 k.1) low (first_dot k.1)

upto_then : (r s : Ordering) → is_le (ordering_then r s) ≡ true → is_gt r ≡ false
upto_then Less s first = refl
upto_then Equal s first = refl
upto_then Greater s first = sym first

pub string_from : (q : List ℕ) (k : List ℕ × ℕ) → is_le (dotted_cmp (q, 0) k) ≡ true → is_gt (slice_cmp nat_cmp q k.0) ≡ false
string_from q k first = upto_then (slice_cmp nat_cmp q k.0) (nat_cmp 0 k.1) first

less_upto : (r s : Ordering) → is_lt (ordering_then r s) ≡ true → not (is_gt r) ≡ true
less_upto Less s less = refl
less_upto Equal s less = refl
less_upto Greater s less = less

-- later entries are not of strings before that of an entry
pub behind : {X : Type 0} (e : (List ℕ × ℕ) × X) (es : List ((List ℕ × ℕ) × X)) → T (below_all dotted_cmp e.0 es) → list_all (λ y. not (is_gt (slice_cmp nat_cmp e.0.0 y.0.0))) es ≡ true
behind e [] below = refl
behind e (y ∷ es) below =
    and_from _ _ (less_upto (slice_cmp nat_cmp e.0.0 y.0.0) (nat_cmp e.0.1 y.0.1) (is_true _ (first_half _ _ below))) (behind e es (second_half _ _ below))
