-- The row after a family gave up its cells and its base is that of the other families.
use Rattle.std.proofs.Common.{◌≡◌, ◌≢◌, ℕ, ◌+◌, ◌≤◌, max, inl, inr, Bool, true, false, not, ◌&&◌, T, nat_eq, List, ◌∷◌, length, None, Some, slice_get, refl, sym, ◌∙◌, ap, subst, arith}
use Rattle.std.proofs.lemmas.Bool.{cases_Bool, cases_eq, eq-eqb, ne_eqb, both_ways, false≢true}
use Rattle.std.proofs.lemmas.List.{length-map}
use Rattle.std.specs.List.{list_any, list_all}
use Rattle.std.specs.FinMap.{is_sorted}
use Rattle.pg_types.specs.Placement.{Family, Families, family_at, top, fits_at}
use Rattle.pg_types.specs.Inside.PlacementSteps.{is_base, is_used, least_base, lowest_base, with_one_sign, without_family}
use Rattle.pg_types.specs.Inside.Placing.{IsLeast}
use Rattle.pg_cells.specs.declared.store.fit.Slot.{Slot}
use Rattle.pg_cells.specs.Inside.store.CellRows.{Row, sign_at, child_at, base_at}
use Rattle.pg_cells.specs.Inside.store.Store.{IsTop}
use Rattle.pg_cells.specs.Inside.store.Fit.{slot_signs, slot_of, fits_row}
use Rattle.pg_cells.specs.Inside.families.Moves.{GivesUp, DropsBase, IsOutsideFamily}
use Rattle.pg_cells.specs.Inside.linked.ValuedFamilies.{Trie}
use Rattle.pg_cells.specs.Inside.families.Layouts.{IsTrie}
use Rattle.pg_cells.proofs.StringMaps.{order, find_without_same, find_without_other, sorted_without, equal_or_not}
use Rattle.pg_types.proofs.LeastBase.{lowest_positive}
use Rattle.pg_cells.proofs.PlacementLaws.{used_cell, cell_used, base_had, had_base, top_is, first_is}
use Rattle.pg_cells.proofs.LayoutLaws.{sign_stands, stands_sign}
use Rattle.pg_cells.proofs.OneSign.{all_one_more, length_one_more}
use Rattle.pg_cells.proofs.Slots.{slot_or_none, has_slot, outside_or}
use Rattle.pg_cells.proofs.Owned.{Owned}

module _ {V : Type 0} (n : ℕ) (r gave dropped : Row V) (t : Trie V) (trie : IsTrie n r t) (p : List ℕ) (was : ℕ) (slots : List (Slot V)) (own : Owned n r t p was slots)
    (gives : GivesUp r gave was slots) (drops : DropsBase gave dropped was) where
  -- the other families
  abbrev pub rest : Families
  rest = without_family t.families p

  pub rest_sorted : T (is_sorted order (without_family t.families p))
  rest_sorted = sorted_without p t.families trie.sorted

  -- a family of the rest is another than that at p
  pub rest_other : (q : List ℕ) (g : Family) → family_at (without_family t.families p) q ≡ Some g → (q ≢ p) × (family_at t.families q ≡ Some g)
  rest_other q g at = elim (equal_or_not q p) [
    | inl e ↦ absurd (let none = ap (family_at (without_family t.families p)) e.0 ∙ find_without_same p t.families in let x = sym none ∙ at in cc)
    | inr e ↦ (e.0, sym (find_without_other q p t.families e.0) ∙ at)
  ]

  pub other_rest : (q : List ℕ) (g : Family) → q ≢ p → family_at t.families q ≡ Some g → family_at (without_family t.families p) q ≡ Some g
  other_rest q g other at = find_without_other q p t.families other ∙ at

  -- a cell of another family is outside of the slots
  pub others_outside : (q : List ℕ) (g : Family) (y : ℕ) → q ≢ p → family_at t.families q ≡ Some g → sign_at r (g.base + y) ≡ y → IsOutsideFamily was slots (g.base + y)
  others_outside q g y other at is x e = elim (slot_or_none slots x) [
    | inr none ↦ none
    | inl h ↦ absurd (
        let stands = own.stand x h.0 h.1 in
        let same : x ≡ y = sym stands.2 ∙ ap (sign_at r) (sym e) ∙ is in
        own.other_base q g other at (own.positive x h.0 h.1) (omega arith))
  ]

  drop_sign : (i : ℕ) → sign_at dropped i ≡ sign_at gave i
  drop_sign i = elim drops [ inl h ↦ ap (λ (k : Row V). sign_at k i) h.1 | inr h ↦ h.1.signs i ]

  drop_child : (i : ℕ) → child_at dropped i ≡ child_at gave i
  drop_child i = elim drops [ inl h ↦ ap (λ (k : Row V). child_at k i) h.1 | inr h ↦ h.1.children i ]

  drop_value : (i : ℕ) → slice_get dropped.values i ≡ slice_get gave.values i
  drop_value i = elim drops [ inl h ↦ ap (λ (k : Row V). slice_get k.values i) h.1 | inr h ↦ h.1.values i ]

  pub sign_outside : (i : ℕ) → IsOutsideFamily was slots i → sign_at dropped i ≡ sign_at r i
  sign_outside i out = drop_sign i ∙ gives.others.signs i out

  pub child_outside : (i : ℕ) → IsOutsideFamily was slots i → child_at dropped i ≡ child_at r i
  child_outside i out = drop_child i ∙ gives.others.children i out

  pub value_outside : (i : ℕ) → IsOutsideFamily was slots i → slice_get dropped.values i ≡ slice_get r.values i
  value_outside i out = drop_value i ∙ gives.others.values i out

  pub sign_inside : (x : ℕ) (k : Slot V) → slot_of slots x ≡ Some k → sign_at dropped (was + x) ≡ 0
  sign_inside x k e = drop_sign (was + x) ∙ gives.free x k e

  -- a taken cell is outside, and is that of another family
  pub taken_owner : (i : ℕ) → sign_at dropped i ≢ 0 → (IsOutsideFamily was slots i) × ((q : List ℕ) × (g : Family) × (q ≢ p) × (family_at t.families q ≡ Some g) × (i ≡ g.base + sign_at dropped i))
  taken_owner i up = elim (outside_or was slots i) [
    | inl h ↦ absurd (up (ap (sign_at dropped) h.2 ∙ sign_inside h.0 h.1 h.3))
    | inr out ↦
        let same = sign_outside i out in
        let o = trie.layout.owned i (λ z. up (same ∙ z)) in
        let is : i ≡ o.1.base + sign_at dropped i = o.3 ∙ ap (λ x. o.1.base + x) (sym same) in (
          out,
          (
            o.0,
            o.1,
            (λ e.
                let at = ap (family_at t.families) (sym e) ∙ o.2 in
                let stands : sign_at r (o.1.base + sign_at r i) ≡ sign_at r i = ap (sign_at r) (sym o.3) in
                let found = own.has o.1 (sign_at r i) at (omega arith) stands in
                let base = (own.own_base o.1 at).0 in
                let none = out (sign_at r i) (o.3 ∙ ap (λ x. x + sign_at r i) base) in
                let x = sym none ∙ found.1 in cc),
            o.2,
            is,
          ),
        )
  ]

  pub rest_used : (i : ℕ) → is_used (without_family t.families p) i ≡ true → sign_at dropped i ≢ 0
  rest_used i e z =
      let c = used_cell (without_family t.families p) rest_sorted i e in
      let o = rest_other c.prefix c.family c.at in
      let s = sign_stands n r (family_at t.families) trie.layout c.prefix c.family c.sign o.1 c.has in
      let out = others_outside c.prefix c.family c.sign o.0 o.1 s.2 in
      let is : sign_at dropped i ≡ c.sign = ap (sign_at dropped) c.is ∙ sign_outside (c.family.base + c.sign) out ∙ s.2 in
      omega (arith, s.0)

  pub used_rest : (i : ℕ) → sign_at dropped i ≢ 0 → is_used (without_family t.families p) i ≡ true
  used_rest i up =
      let o = taken_owner i up in
      let stands : sign_at r (o.1.1.base + sign_at dropped i) ≡ sign_at dropped i = ap (sign_at r) (sym o.1.4) ∙ sym (sign_outside i o.0) in
      ap (is_used (without_family t.families p)) o.1.4
      ∙ cell_used (without_family t.families p) o.1.0 o.1.1 (sign_at dropped i) (other_rest o.1.0 o.1.1 o.1.2 o.1.3)
      (stands_sign n r (family_at t.families) trie.layout o.1.0 o.1.1 (sign_at dropped i) o.1.3 (omega arith) stands)

  free_test : (i : ℕ) → nat_eq (sign_at dropped i) 0 ≡ not (is_used (without_family t.families p) i)
  free_test i = elim (cases_eq (sign_at dropped i) 0) [
    | inl z ↦ eq-eqb (sign_at dropped i) 0 z ∙ sym (elim (cases_Bool (is_used (without_family t.families p) i)) [
      | inl e ↦ absurd (rest_used i e z)
      | inr e ↦ ap not e
    ])
    | inr up ↦ ne_eqb (sign_at dropped i) 0 up ∙ sym (ap not (used_rest i up))
  ]

  -- another family keeps its flag
  pub other_flag : (q : List ℕ) (g : Family) → q ≢ p → family_at t.families q ≡ Some g → base_at dropped g.base ≡ true
  other_flag q g other at = elim drops [
    | inl h ↦ ap (λ (k : Row V). base_at k g.base) h.1 ∙ gives.others.bases g.base ∙ trie.layout.flag q g at
    | inr h ↦ h.1.bases g.base (own.other_base q g other at h.0) ∙ gives.others.bases g.base ∙ trie.layout.flag q g at
  ]

  -- and each flag is that of another family
  pub flag_other : (b : ℕ) → base_at dropped b ≡ true → (q : List ℕ) × (g : Family) × (q ≢ p) × (family_at t.families q ≡ Some g) × (g.base ≡ b)
  flag_other b e =
      let old : base_at r b ≡ true = elim drops [
        | inl h ↦ sym (ap (λ (k : Row V). base_at k b) h.1 ∙ gives.others.bases b) ∙ e
        | inr h ↦ elim (cases_eq b was) [
          | inl same ↦ absurd (false≢true (sym (ap (base_at dropped) same ∙ h.1.base_is) ∙ e))
          | inr other ↦ sym (h.1.bases b other ∙ gives.others.bases b) ∙ e
        ]
      ] in
      let o = trie.layout.flagged b old in (
        o.0,
        o.1,
        (λ same.
            let at = ap (family_at t.families) (sym same) ∙ o.2 in
            let base = own.own_base o.1 at in
            elim drops [
              | inl h ↦ let z = h.0 in omega (arith, base.1)
              | inr h ↦ false≢true (sym (ap (base_at dropped) (sym o.3 ∙ base.0) ∙ h.1.base_is) ∙ e)
            ]),
        o.2,
        o.3,
      )

  base_test : (b : ℕ) → base_at dropped b ≡ is_base (without_family t.families p) b
  base_test b = elim (cases_Bool (base_at dropped b)) [
    | inl e ↦ let o = flag_other b e in e ∙ sym (ap (is_base (without_family t.families p)) (sym o.4) ∙ had_base (without_family t.families p) o.0 o.1 (other_rest o.0 o.1 o.2 o.3))
    | inr e ↦ e ∙ sym (elim (cases_Bool (is_base (without_family t.families p) b)) [
      | inl f ↦
          let h = base_had (without_family t.families p) rest_sorted b f in
          let o = rest_other h.0 h.1 h.2 in
          absurd (both_ways (base_at dropped b) e (ap (base_at dropped) h.3 ∙ other_flag h.0 h.1 o.0 o.1))
      | inr f ↦ f
    ])
  ]

  top_same : (top_now : ℕ) → IsTop dropped.signs top_now → top_now ≡ top (without_family t.families p)
  top_same top_now is = top_is (without_family t.families p) top_now (λ i e. is.most i (rest_used i e)) (λ up. used_rest top_now (is.used up))

  -- the tests of the search are those of the placement
  fit_same : (s b : ℕ) → fits_row dropped (s ∷ slot_signs slots) b ≡ fits_at (without_family t.families p) (with_one_sign s (slot_signs slots)) b
  fit_same s b =
      (λ i. not (base_test b i) && list_all (λ x. free_test (b + x) i) (s ∷ slot_signs slots))
      ∙ ap (λ x. not (is_base (without_family t.families p) b) && x) (sym (all_one_more (λ x. not (is_used (without_family t.families p) (b + x))) s (slot_signs slots)))

  pub least_same : (s base top_now : ℕ) → slot_of slots s ≡ None → IsTop dropped.signs top_now
      → IsLeast (fits_row dropped (s ∷ slot_signs slots)) (lowest_base n (length slots + 1) top_now) base → base ≤ max 1 top_now
      → base ≡ least_base n (without_family t.families p) (with_one_sign s (slot_signs slots))
  least_same s base top_now lacks is_top least near =
      let same = top_same top_now is_top in
      let count : length slots + 1 ≡ length (with_one_sign s (slot_signs slots)) =
      ap (λ k. k + 1) (sym (length-map slots (λ (k : Slot V). k.sign))) ∙ sym (length_one_more s (slot_signs slots) (no_sign (list_any (nat_eq s) (slot_signs slots)) refl)) in
      let low : lowest_base n (length slots + 1) top_now ≡ lowest_base n (length (with_one_sign s (slot_signs slots))) (top (without_family t.families p)) =
      λ i. lowest_base n (count i) (same i) in
      sym (first_is (fits_at (without_family t.families p) (with_one_sign s (slot_signs slots))) (top (without_family t.families p))
      (lowest_base n (length (with_one_sign s (slot_signs slots))) (top (without_family t.families p))) base
      (subst (λ k. k ≤ base) low least.from)
      (let some = lowest_positive n (length (with_one_sign s (slot_signs slots))) (top (without_family t.families p)) in omega arith)
      (sym (fit_same s base) ∙ least.meets)
      (λ k l lt. sym (fit_same s k) ∙ least.first k (subst (λ j. j ≤ k) (sym low) l) lt))
    where
      no_sign : (b : Bool) → list_any (nat_eq s) (slot_signs slots) ≡ b → list_any (nat_eq s) (slot_signs slots) ≡ false
      no_sign true e = absurd (let found = has_slot slots s e in let x = sym lacks ∙ found.1 in cc)
      no_sign false e = e
