-- What is in the list of a string: the values and the marks that the maps have at its dots.
use Rattle.std.proofs.Common.{◌≡◌, ℕ, ◌+◌, ◌≤◌, ◌⊎◌, inl, inr, List, length, Option, Some, None, refl, sym, ap, subst, arith}
use Rattle.std.specs.List.{range_with_len}
use Rattle.std.specs.FinMap.Entries.{find}
use Rattle.pg_patterns.specs.Values.{Patterns}
use Rattle.pg_patterns.specs.DottedSigns.{dotted_cmp}
use Rattle.pg_trie.specs.declared.hopeless.TheConstants.{HOPELESS}
use Rattle.pg_trie.specs.Inside.Lists.{value_part, hopeless_part, outputs_at_dot, outputs_at}
use Rattle.pg_hyph.proofs.Members.{In, in_left, in_right, in_either, in_flat, flat_in, in_range}

value_in : (v d : ℕ) (o : Option ℕ) → o ≡ Some v → In (v, d) (value_part o d)
value_in v d None is = cc
value_in v d (Some u) is = let same : v ≡ u = cc in inl (ap (λ n. (n, d)) same)

in_value : (x : ℕ × ℕ) (d : ℕ) (o : Option ℕ) → In x (value_part o d) → (o ≡ Some x.0) × (x.1 ≡ d)
in_value x d None here = absurd here
in_value x d (Some u) here =
    elim here [
      | inl same ↦ (ap (λ (y : ℕ × ℕ). Some y.0) (sym same), ap (λ (y : ℕ × ℕ). y.1) same)
      | inr none ↦ absurd none
    ]

mark_in : (d : ℕ) (o : Option (Unit {0})) → o ≡ Some (tt {0}) → In (HOPELESS, d) (hopeless_part o d)
mark_in d None is = cc
mark_in d (Some u) is = inl refl

in_mark : (x : ℕ × ℕ) (d : ℕ) (o : Option (Unit {0})) → In x (hopeless_part o d) → (o ≡ Some (tt {0})) × (x.0 ≡ HOPELESS) × (x.1 ≡ d)
in_mark x d None here = absurd here
in_mark x d (Some u) here =
    elim here [
      | inl same ↦ (refl, ap (λ (y : ℕ × ℕ). y.0) same, ap (λ (y : ℕ × ℕ). y.1) same)
      | inr none ↦ absurd none
    ]

module _ (P : Patterns) (H : List ((List ℕ × ℕ) × Unit {0})) (q : List ℕ) where
  -- what is in the list is a value or a mark of its dot
  pub in_outputs : (x : ℕ × ℕ) → In x (outputs_at P H q) → (find dotted_cmp (q, x.1) P ≡ Some x.0) ⊎ ((x.0 ≡ HOPELESS) × (find dotted_cmp (q, x.1) H ≡ Some (tt {0})))
  unfolding outputs_at
  in_outputs x here =
      let at = flat_in (outputs_at_dot P H q) x (range_with_len 0 (length q + 1)) here in
      elim (in_either x (value_part (find dotted_cmp (q, at.0) P) at.0) (hopeless_part (find dotted_cmp (q, at.0) H) at.0) at.1) [
        | inl value ↦
            let is = in_value x at.0 (find dotted_cmp (q, at.0) P) value in
            inl (subst (λ (d : ℕ). find dotted_cmp (q, d) P ≡ Some x.0) (sym is.1) is.0)
        | inr mark ↦
            let is = in_mark x at.0 (find dotted_cmp (q, at.0) H) mark in
            inr (is.1, subst (λ (d : ℕ). find dotted_cmp (q, d) H ≡ Some (tt {0})) (sym is.2) is.0)
      ]

  -- a value is in the list
  pub outputs_value : (v d : ℕ) → d ≤ length q → find dotted_cmp (q, d) P ≡ Some v → In (v, d) (outputs_at P H q)
  unfolding outputs_at
  outputs_value v d low found =
      in_flat (outputs_at_dot P H q) (v, d) d (range_with_len 0 (length q + 1)) (in_range d 0 (length q + 1) (omega arith) (omega arith))
      (in_left (v, d) (value_part (find dotted_cmp (q, d) P) d) (hopeless_part (find dotted_cmp (q, d) H) d) (value_in v d (find dotted_cmp (q, d) P) found))

  -- and so is a mark
  pub outputs_mark : (d : ℕ) → d ≤ length q → find dotted_cmp (q, d) H ≡ Some (tt {0}) → In (HOPELESS, d) (outputs_at P H q)
  unfolding outputs_at
  outputs_mark d low found =
      in_flat (outputs_at_dot P H q) (HOPELESS, d) d (range_with_len 0 (length q + 1)) (in_range d 0 (length q + 1) (omega arith) (omega arith))
      (in_right (HOPELESS, d) (value_part (find dotted_cmp (q, d) P) d) (hopeless_part (find dotted_cmp (q, d) H) d) (mark_in d (find dotted_cmp (q, d) H) found))
