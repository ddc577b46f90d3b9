-- A window that can be entered.
use Rattle.std.proofs.Common.{◌≡◌, ℕ, true, List, length, inl, inr, ◌⊎◌, subst, sym, ◌∙◌}
use Rattle.pg_types.specs.Inside.Signs.{SignsWithin}
use Rattle.pg_types.specs.Inside.counting.Counts.{is_counted}
use Rattle.pg_count.specs.Inside.Counting.{Counting, IsCounting}

module _ (k : Counting) (u : List ℕ) (signs len : ℕ) (kept : IsCounting k) (can : (is_counted k.counts u ≡ true) ⊎ ((length u ≡ len) × SignsWithin signs u)) where
  -- it has the length of the pass
  pub enters_len : k.len ≡ len → length u ≡ len
  enters_len same = elim can [
    | inl counted ↦ kept.windows u counted ∙ same
    | inr it ↦ it.0
  ]

  -- and signs of the table
  pub enters_signs : k.signs ≡ signs → SignsWithin signs u
  enters_signs same = elim can [
    | inl counted ↦ subst (λ n. SignsWithin n u) same (kept.signs u counted)
    | inr it ↦ it.1
  ]
