-- The values after one family has one sign more.
use Rattle.std.proofs.Common.{◌≡◌, ◌≢◌, ℕ, ◌+◌, ◌<◌, inl, inr, Bool, true, false, cond, nat_eq, List, [], ◌∷◌, ◌++◌, Option, None, Some, slice_get, refl, sym, ◌∙◌, ap}
use Rattle.std.proofs.lemmas.Bool.{cases_Bool}
use Rattle.std.specs.List.{list_any}
use Rattle.std.specs.FinMap.{find, put}
use Rattle.pg_types.specs.Placement.{Family, Families, family_at}
use Rattle.pg_types.specs.Inside.Placing.{cell_of}
use Rattle.pg_cells.specs.Inside.store.CellRows.{Row, sign_at}
use Rattle.pg_cells.specs.Inside.linked.ValuedFamilies.{Trie}
use Rattle.pg_cells.specs.Inside.families.Layouts.{IsTrie, value_in}
use Rattle.pg_cells.specs.Inside.families.OneTrie.{last_of}
use Rattle.pg_cells.proofs.StringMaps.{order, find_put_same, find_put_other, equal_or_not}
use Rattle.pg_cells.proofs.PlacementLaws.{cell_of_last}
use Rattle.pg_cells.proofs.LayoutLaws.{sign_stands}
use Rattle.pg_cells.proofs.PlacedFamily.{not_empty}
use Rattle.pg_cells.proofs.StringCells.{parts_cell, parts_none}

-- what is told of the values: that of the new string q ++ s, those of its family's other signs, and those elsewhere
pub record HasValues {V : Type 0} (r new : Row V) (t : Trie V) (fs : Families) (p : List ℕ) (s : ℕ) (v : V) (f : Family) : Type 0 where
  pub here : family_at fs p ≡ Some f
  pub there : (q : List ℕ) → q ≢ p → family_at fs q ≡ family_at t.families q
  pub has : list_any (nat_eq s) f.signs ≡ true
  pub value : slice_get new.values (f.base + s) ≡ Some v
  pub own : (y : ℕ) → y ≢ s → list_any (nat_eq y) f.signs ≡ true → find order (p ++ y ∷ []) t.values ≡ slice_get new.values (f.base + y)
  pub own_none : (y : ℕ) → y ≢ s → list_any (nat_eq y) f.signs ≡ false → find order (p ++ y ∷ []) t.values ≡ None
  pub elsewhere : (q : List ℕ) (g : Family) (y : ℕ) → q ≢ p → family_at t.families q ≡ Some g → 0 < y → sign_at r (g.base + y) ≡ y
      → slice_get new.values (g.base + y) ≡ slice_get r.values (g.base + y)

module _ {V : Type 0} (n : ℕ) (r new : Row V) (t : Trie V) (trie : IsTrie n r t) (fs : Families) (p : List ℕ) (s : ℕ) (v : V) (f : Family) (told : HasValues r new t fs p s v f) where
  -- a string of another family keeps its value
  elsewhere_value : (q : List ℕ) (y : ℕ) → q ≢ p → (o : Option Family) → family_at t.families q ≡ o
      → value_in r (elim o as (λ _. Option ℕ) [ None ↦ None | Some g ↦ cond (list_any (nat_eq y) g.signs) (Some (g.base + y)) None ])
      ≡ value_in new (elim o as (λ _. Option ℕ) [ None ↦ None | Some g ↦ cond (list_any (nat_eq y) g.signs) (Some (g.base + y)) None ])
  elsewhere_value q y other None at = refl
  elsewhere_value q y other (Some g) at = by (list_any (nat_eq y) g.signs) refl
    where
      by : (b : Bool) → list_any (nat_eq y) g.signs ≡ b → value_in r (cond b (Some (g.base + y)) None) ≡ value_in new (cond b (Some (g.base + y)) None)
      by true has =
          let stands = sign_stands n r (family_at t.families) trie.layout q g y at has in
          sym (told.elsewhere q g y other at stands.0 stands.2)
      by false lacks = refl

  at_last : (q : List ℕ) (y : ℕ) → find order (q ++ y ∷ []) (put order (p ++ s ∷ []) v t.values) ≡ value_in new (cell_of fs (q ++ y ∷ []))
  at_last q y = elim (equal_or_not (q ++ y ∷ []) (p ++ s ∷ [])) [
    | inl e ↦
        ap (λ x. find order x (put order (p ++ s ∷ []) v t.values)) e.0 ∙ find_put_same (p ++ s ∷ []) v t.values
        ∙ sym (ap (λ x. value_in new (cell_of fs x)) e.0 ∙ ap (value_in new) (parts_cell fs p s f told.here told.has) ∙ told.value)
    | inr e ↦
        find_put_other (q ++ y ∷ []) (p ++ s ∷ []) v t.values e.0
        ∙ elim (equal_or_not q p) [
          | inl same ↦
              let other : y ≢ s = λ z. e.0 (λ i. same.0 i ++ z i ∷ []) in
              elim (cases_Bool (list_any (nat_eq y) f.signs)) [
                | inl has ↦ ap (λ x. find order (x ++ y ∷ []) t.values) same.0 ∙ told.own y other has
                    ∙ sym (ap (λ x. value_in new (cell_of fs (x ++ y ∷ []))) same.0 ∙ ap (value_in new) (parts_cell fs p y f told.here has))
                | inr lacks ↦ ap (λ x. find order (x ++ y ∷ []) t.values) same.0 ∙ told.own_none y other lacks
                    ∙ sym (ap (λ x. value_in new (cell_of fs (x ++ y ∷ []))) same.0 ∙ ap (value_in new) (parts_none fs p y f told.here lacks))
              ]
          | inr other ↦
              trie.has (q ++ y ∷ [])
              ∙ ap (value_in r) (cell_of_last t.families q y)
              ∙ elsewhere_value q y other.0 (family_at t.families q) refl
              ∙ sym (ap (value_in new) (cell_of_last fs q y
              ∙ ap (λ o. elim o as (λ _. Option ℕ) [ None ↦ None | Some g ↦ cond (list_any (nat_eq y) g.signs) (Some (g.base + y)) None ]) (told.there q other.0)))
        ]
  ]

  pub values_settle : (q : List ℕ) → find order q (put order (p ++ s ∷ []) v t.values) ≡ value_in new (cell_of fs q)
  values_settle q = elim (last_of q) [
    | inl e ↦
        ap (λ x. find order x (put order (p ++ s ∷ []) v t.values)) e
        ∙ find_put_other [] (p ++ s ∷ []) v t.values (λ z. not_empty p s (sym z))
        ∙ trie.has []
        ∙ sym (ap (λ x. value_in new (cell_of fs x)) e)
    | inr h ↦
        ap (λ x. find order x (put order (p ++ s ∷ []) v t.values)) h.whole ∙ at_last h.front h.last ∙ sym (ap (λ x. value_in new (cell_of fs x)) h.whole)
  ]
