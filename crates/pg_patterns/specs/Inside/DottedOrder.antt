-- The laws of the order of dotted strings.
use Rattle.std.specs.Prelude.{◌≡◌, ℕ, Bool, ◌&&◌, T, List, nat_eq, Some, refl}
use Rattle.std.specs.declared.cmp.Ordering.{Ordering}
use Rattle.std.specs.declared.cmp.Ordering.TheVariants.{Less, Equal, Greater}
use Rattle.std.specs.Ordering.{nat_cmp, ordering_then, eq_by_cmp, is_eq}
use Rattle.std.proofs.Common.{sym, subst}
use Rattle.std.specs.FinMap.{nat_cmp-IsAntisymmetric, slice_cmp-IsAntisymmetric}
use Rattle.std.specs.Cmp.{IsTotalOrder, IsEquivalence, IsPartialEquivalence, IsPartialOrder, partial_equiv_from_equiv, and_equiv, on_equiv, then_total, on_total, nat_cmp_total, nat_eq_equiv, unsigned_ties, both_tied, po}
use Rattle.std.specs.Cmp.Lexicographic.{slice_cmp, pointwise, nat_list_cmp_total, nat_list_eq_equiv, texts_ties}
use Rattle.pg_patterns.specs.DottedSigns.{dotted_cmp}

-- two dotted strings are the same where their signs and their dots are
abbrev pub same_dotted : List ℕ × ℕ → List ℕ × ℕ → Bool
same_dotted a b = pointwise nat_eq a.0 b.0 && nat_eq a.1 b.1

-- to be the same dotted string is an equivalence
pub dotted_equiv : IsEquivalence same_dotted
dotted_equiv = and_equiv (on_equiv (λ k. k.0) nat_list_eq_equiv) (on_equiv (λ k. k.1) nat_eq_equiv)

-- to be the same dotted string is a partial equivalence too
pub dotted_partial_equiv : IsPartialEquivalence same_dotted
dotted_partial_equiv = partial_equiv_from_equiv dotted_equiv

-- the order of dotted strings is total
pub dotted_total : IsTotalOrder dotted_cmp
dotted_total = then_total (on_total (λ k. k.0) nat_list_cmp_total)
    (on_total (λ k. k.1) nat_cmp_total)

-- two dotted strings are equal in the order exactly where they are the same
pub dotted_ties : (a b : List ℕ × ℕ) → same_dotted a b ≡ eq_by_cmp dotted_cmp a b
dotted_ties a b = both_tied _ _ _ _ (texts_ties a.0 b.0) (unsigned_ties a.1 b.1)

-- the order of dotted strings is a partial order too, which calls the same ones equal
pub dotted_partial_order : IsPartialOrder same_dotted (λ a b. Some (dotted_cmp a b))
dotted_partial_order = po dotted_total dotted_ties

-- where one comparison and then another come out equal, each of them is equal
both_equal : (r s : Ordering) → ordering_then r s ≡ Equal → (r ≡ Equal) × (s ≡ Equal)
both_equal Less s e = absurd (subst (λ r. T (is_eq r)) (sym e) tt)
both_equal Equal s e = (refl, e)
both_equal Greater s e = absurd (subst (λ r. T (is_eq r)) (sym e) tt)

-- dotted strings that the order calls equal are one
pub dotted_exact : (a b : List ℕ × ℕ) → dotted_cmp a b ≡ Equal → a ≡ b
dotted_exact a b e =
    let parts = both_equal (slice_cmp nat_cmp a.0 b.0) (nat_cmp a.1 b.1) e in
    let signs : a.0 ≡ b.0 = slice_cmp-IsAntisymmetric nat_cmp-IsAntisymmetric a.0 b.0 parts.0 in
    let dots : a.1 ≡ b.1 = nat_cmp-IsAntisymmetric a.1 b.1 parts.1 in
    λ i. (signs i, dots i)
