-- The search along the signs of a family.
use Rattle.std.proofs.Common.{◌≡◌, ℕ, ◌-◌, ◌<◌, ◌≤◌, ◌⊎◌, inl, inr, true, false, List, [], ◌∷◌, ◌++◌, Option, None, Some, refl, sym, ◌∙◌, ap, subst, arith}
use Rattle.std.proofs.lemmas.Bool.{cases_Bool, cases_eq, cases_lt}
use Rattle.std.specs.Option.{is_some}
use Rattle.pg_types.specs.Inside.Placing.{cell_of}
use Rattle.pg_cells.specs.Inside.linked.ValuedFamilies.{ValuedFamilies}
use Rattle.pg_cells.specs.Inside.linked.AreValuedFamilies.{AreValuedFamilies}
use Rattle.pg_cells.specs.Inside.linked.Members.{IsNextSign, goes_on}
use Rattle.pg_cells.proofs.LinkLaws.{goes_has}
use Rattle.pg_cells.proofs.Walking.{ends_before}
use Rattle.pg_count.specs.Inside.Floors.{first_sign}
use Rattle.pg_count.specs.Inside.Least.{NoneAt}
use Rattle.pg_count.proofs.Searching.{none_before, none_ends}

abbrev Sums : Type 0
Sums = Option (ℕ × ℕ)

pub first_up : (floor : List ℕ) → 1 ≤ first_sign floor
first_up [] = omega arith
first_up (s ∷ q) = omega arith

module _ (h : ValuedFamilies Sums) (held : AreValuedFamilies h) (p floor : List ℕ) (k : ℕ) where
  -- a sign that the family lacks does not serve
  absent_none : (x : ℕ) → goes_on h.values p x ≡ false → NoneAt h.values p floor k x
  absent_none x off = none_ends h.values p floor k x (ends_before h held p x (none (cell_of h.families (p ++ x ∷ [])) refl))
    where
      none : (o : Option ℕ) → cell_of h.families (p ++ x ∷ []) ≡ o → cell_of h.families (p ++ x ∷ []) ≡ None
      none None e = e
      none (Some cell) e = absurd (let wrong : false ≡ true = sym off ∙ goes_has h held p x ∙ ap is_some e in cc)

  -- no sign before the least that is not below the first of the floor
  pub none_from : (s : ℕ) → IsNextSign h.values p (first_sign floor - 1) s → (x : ℕ) → (s ≡ 0) ⊎ (x < s) → NoneAt h.values p floor k x
  none_from s next x early = elim (cases_lt x (first_sign floor)) [
    | inl lt ↦ none_before h held p floor k x lt
    | inr le ↦ elim (cases_Bool (goes_on h.values p x)) [
      | inr off ↦ absent_none x off
      | inl goes ↦
          let up = first_up floor in
          let l = next.least x (omega arith) goes in
          absurd (late l early)
    ]
  ]
    where
      late : (0 < s) × (s ≤ x) → (s ≡ 0) ⊎ (x < s) → ⊥
      late l (inl z) = let up = l.0 in omega arith
      late l (inr lt) = let le = l.1 in omega arith

  -- nor before the next one, where none served up to a sign
  pub none_next : (s y : ℕ) → ((x : ℕ) → (s ≡ 0) ⊎ (x < s) → NoneAt h.values p floor k x) → NoneAt h.values p floor k s → IsNextSign h.values p s y → (x : ℕ) → (y ≡ 0) ⊎ (x < y) → NoneAt h.values p floor k x
  none_next s y none here next x early = elim (cases_lt x s) [
    | inl lt ↦ none x (inr lt)
    | inr le ↦ elim (cases_eq x s) [
      | inl e ↦ subst (NoneAt h.values p floor k) (sym e) here
      | inr other ↦ elim (cases_Bool (goes_on h.values p x)) [
        | inr off ↦ absent_none x off
        | inl goes ↦ absurd (late (next.least x (omega arith) goes) early)
      ]
    ]
  ]
    where
      late : (0 < y) × (y ≤ x) → (y ≡ 0) ⊎ (x < y) → ⊥
      late l (inl z) = let up = l.0 in omega arith
      late l (inr lt) = let le = l.1 in omega arith
