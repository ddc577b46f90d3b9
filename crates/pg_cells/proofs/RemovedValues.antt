-- The values after a sign was taken out of its family.
use Rattle.std.proofs.Common.{◌≡◌, ◌≢◌, ℕ, ◌+◌, ◌<◌, inl, inr, Bool, true, false, cond, nat_eq, List, [], ◌∷◌, ◌++◌, Option, None, Some, slice_get, refl, sym, ◌∙◌, ap}
use Rattle.std.specs.List.{list_any}
use Rattle.std.specs.FinMap.{find}
use Rattle.pg_types.specs.Placement.{Family, Families, family_at}
use Rattle.pg_types.specs.Inside.Placing.{cell_of}
use Rattle.pg_cells.specs.Inside.store.CellRows.{Row, sign_at}
use Rattle.pg_cells.specs.Inside.linked.ValuedFamilies.{Trie}
use Rattle.pg_cells.specs.Inside.families.Layouts.{IsTrie, value_in}
use Rattle.pg_cells.specs.Inside.families.OneTrie.{last_of}
use Rattle.pg_cells.proofs.StringMaps.{order, without_key, find_without_same, find_without_other, equal_or_not}
use Rattle.pg_cells.proofs.PlacementLaws.{cell_of_last}
use Rattle.pg_cells.proofs.LayoutLaws.{sign_stands}
use Rattle.pg_cells.proofs.PlacedFamily.{not_empty}

-- what a family tells of the cell of a sign
abbrev pub cell_told : Option Family → ℕ → Option ℕ
cell_told o y = elim o as (λ _. Option ℕ) [ None ↦ None | Some g ↦ cond (list_any (nat_eq y) g.signs) (Some (g.base + y)) None ]

module _ {V : Type 0} (n : ℕ) (r new : Row V) (t : Trie V) (trie : IsTrie n r t) (fs : Families) (p : List ℕ) (s : ℕ)
    (there : (q : List ℕ) → q ≢ p → family_at fs q ≡ family_at t.families q)
    (gone : cell_told (family_at fs p) s ≡ None)
    (own : (y : ℕ) → y ≢ s → cell_told (family_at fs p) y ≡ cell_told (family_at t.families p) y)
    (values : (q : List ℕ) (g : Family) (y : ℕ) → q ++ y ∷ [] ≢ p ++ s ∷ [] → family_at t.families q ≡ Some g → sign_at r (g.base + y) ≡ y → 0 < y
    → slice_get new.values (g.base + y) ≡ slice_get r.values (g.base + y)) where
  value_kept : (q : List ℕ) (y : ℕ) → q ++ y ∷ [] ≢ p ++ s ∷ [] → (o : Option Family) → family_at t.families q ≡ o → value_in r (cell_told o y) ≡ value_in new (cell_told o y)
  value_kept q y other None at = refl
  value_kept q y other (Some g) at = by (list_any (nat_eq y) g.signs) refl
    where
      by : (b : Bool) → list_any (nat_eq y) g.signs ≡ b → value_in r (cond b (Some (g.base + y)) None) ≡ value_in new (cond b (Some (g.base + y)) None)
      by true has =
          let stands = sign_stands n r (family_at t.families) trie.layout q g y at has in
          sym (values q g y other at stands.2 stands.0)
      by false lacks = refl

  at_last : (q : List ℕ) (y : ℕ) → find order (q ++ y ∷ []) (without_key (p ++ s ∷ []) t.values) ≡ value_in new (cell_of fs (q ++ y ∷ []))
  at_last q y = elim (equal_or_not (q ++ y ∷ []) (p ++ s ∷ [])) [
    | inl e ↦
        ap (λ x. find order x (without_key (p ++ s ∷ []) t.values)) e.0 ∙ find_without_same (p ++ s ∷ []) t.values
        ∙ sym (ap (λ x. value_in new (cell_of fs x)) e.0 ∙ ap (value_in new) (cell_of_last fs p s ∙ gone))
    | inr e ↦
        find_without_other (q ++ y ∷ []) (p ++ s ∷ []) t.values e.0
        ∙ trie.has (q ++ y ∷ []) ∙ ap (value_in r) (cell_of_last t.families q y)
        ∙ value_kept q y e.0 (family_at t.families q) refl
        ∙ ap (value_in new) (sym (cell_of_last fs q y ∙ told q y e.0))
  ]
    where
      told : (q : List ℕ) (y : ℕ) → q ++ y ∷ [] ≢ p ++ s ∷ [] → cell_told (family_at fs q) y ≡ cell_told (family_at t.families q) y
      told q y other = elim (equal_or_not q p) [
        | inl same ↦
            ap (λ x. cell_told (family_at fs x) y) same.0 ∙ own y (λ z. other (λ i. same.0 i ++ z i ∷ [])) ∙ sym (ap (λ x. cell_told (family_at t.families x) y) same.0)
        | inr apart ↦ ap (λ o. cell_told o y) (there q apart.0)
      ]

  pub values_removed : (q : List ℕ) → find order q (without_key (p ++ s ∷ []) t.values) ≡ value_in new (cell_of fs q)
  values_removed q = elim (last_of q) [
    | inl e ↦
        ap (λ x. find order x (without_key (p ++ s ∷ []) t.values)) e
        ∙ find_without_other [] (p ++ s ∷ []) t.values (λ z. not_empty p s (sym z))
        ∙ trie.has []
        ∙ sym (ap (λ x. value_in new (cell_of fs x)) e)
    | inr h ↦
        ap (λ x. find order x (without_key (p ++ s ∷ []) t.values)) h.whole ∙ at_last h.front h.last ∙ sym (ap (λ x. value_in new (cell_of fs x)) h.whole)
  ]
