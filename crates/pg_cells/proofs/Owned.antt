-- What the slots of a family, or of none, tell of the trie.
use Rattle.std.proofs.Common.{◌≡◌, ◌≢◌, ℕ, ◌+◌, ◌<◌, ◌≤◌, inl, inr, Bool, true, false, cond, nat_eq, List, [], ◌∷◌, ◌++◌, filter, length, Option, None, Some, suc, zero, refl, sym, ◌∙◌, ap, arith}
use Rattle.std.proofs.lemmas.Bool.{cases_Bool, eq-eqb, ne_eqb}
use Rattle.std.proofs.lemmas.List.{length-map}
use Rattle.std.specs.List.{list_any, range_with_len}
use Rattle.std.specs.FinMap.{find}
use Rattle.pg_types.specs.Placement.{Family, family_at}
use Rattle.pg_cells.specs.declared.store.fit.Slot.{Slot}
use Rattle.pg_cells.specs.Inside.store.CellRows.{Row, sign_at, child_at}
use Rattle.pg_cells.specs.Inside.store.Fit.{slot_signs, slot_of}
use Rattle.pg_cells.specs.Inside.families.Moves.{AreDistinct, AreSlotsOf}
use Rattle.pg_cells.specs.Inside.linked.ValuedFamilies.{Trie}
use Rattle.pg_cells.specs.Inside.families.Layouts.{IsTrie, value_in}
use Rattle.pg_cells.proofs.StringMaps.{order}
use Rattle.pg_cells.proofs.PlacementLaws.{size_of, cell_of_last}
use Rattle.pg_cells.proofs.LayoutLaws.{sign_stands, stands_sign}
use Rattle.pg_cells.proofs.Slots.{slot_has, has_slot}
use Rattle.pg_cells.proofs.StringCells.{parts_cell, parts_none}

pub record Owned {V : Type 0} (n : ℕ) (r : Row V) (t : Trie V) (p : List ℕ) (was : ℕ) (slots : List (Slot V)) : Type 0 where
  pub distinct : AreDistinct slots
  pub stand : (x : ℕ) (k : Slot V) → slot_of slots x ≡ Some k → (0 < x) × (x ≤ n) × (sign_at r (was + x) ≡ x)
  -- a base that is had is in the row, so a child is
  pub child : (x : ℕ) (k : Slot V) → slot_of slots x ≡ Some k → k.child ≡ child_at r (was + x)
  pub positive : (x : ℕ) (k : Slot V) → slot_of slots x ≡ Some k → 0 < was
  pub other_base : (q : List ℕ) (g : Family) → q ≢ p → family_at t.families q ≡ Some g → 0 < was → g.base ≢ was
  pub own_base : (g : Family) → family_at t.families p ≡ Some g → (g.base ≡ was) × (0 < was)
  pub has : (g : Family) (y : ℕ) → family_at t.families p ≡ Some g → 0 < y → sign_at r (g.base + y) ≡ y → (k : Slot V) × (slot_of slots y ≡ Some k)
  pub below : (y : ℕ) (g : Family) → family_at t.families (p ++ y ∷ []) ≡ Some g → (k : Slot V) × (slot_of slots y ≡ Some k) × (k.child ≡ g.base)
  pub above : (y : ℕ) (k : Slot V) → slot_of slots y ≡ Some k → 0 < k.child → (g : Family) × (family_at t.families (p ++ y ∷ []) ≡ Some g) × (g.base ≡ k.child)
  pub value : (y : ℕ) (k : Slot V) → slot_of slots y ≡ Some k → find order (p ++ y ∷ []) t.values ≡ Some k.value
  pub no_value : (y : ℕ) → slot_of slots y ≡ None → find order (p ++ y ∷ []) t.values ≡ None
  pub size : size_of (family_at t.families p) ≡ length slots
  pub test : ℕ → Bool
  pub signs : slot_signs slots ≡ filter test (range_with_len 1 n)
  pub some_test : (x : ℕ) (k : Slot V) → slot_of slots x ≡ Some k → test x ≡ true
  pub none_test : (x : ℕ) → 0 < x → slot_of slots x ≡ None → test x ≡ false

module _ {V : Type 0} (n : ℕ) (r : Row V) (t : Trie V) (trie : IsTrie n r t) (p : List ℕ) where
  -- where there is no family there are no slots
  pub owned_none : family_at t.families p ≡ None → Owned n r t p 0 []
  owned_none none = record {
    distinct = λ k lt. absurd (omega arith);
    stand = λ x k e. cc;
    child = λ x k e. cc;
    positive = λ x k e. cc;
    other_base = λ q g other at up. absurd (omega arith);
    own_base = λ g at. absurd (let x = sym none ∙ at in cc);
    has = λ g y at up is. absurd (let x = sym none ∙ at in cc);
    below = λ y g at. absurd (let up = trie.layout.parent p y g at in let x = sym none ∙ up.at in cc);
    above = λ y k e. cc;
    value = λ y k e. cc;
    no_value = λ y e.
        trie.has (p ++ y ∷ [])
        ∙ ap (value_in r) (cell_of_last t.families p y ∙ ap (λ o. elim o as (λ _. Option ℕ) [ None ↦ None | Some g ↦ cond (list_any (nat_eq y) g.signs) (Some (g.base + y)) None ]) none);
    size = ap size_of none;
    test = λ x. false;
    signs = sym (filter_none 1 n);
    some_test = λ x k e. cc;
    none_test = λ x up e. refl;
  }
    where
      filter_none : (a m : ℕ) → filter (λ _. false) (range_with_len a m) ≡ []
      filter_none a zero = refl
      filter_none a (suc m) = filter_none (a + 1) m

  module _ (f : Family) (at : family_at t.families p ≡ Some f) (up : 0 < f.base) (slots : List (Slot V)) (c : AreSlotsOf n r f.base slots) where
    -- the family is the one at p
    is_f : (g : Family) → family_at t.families p ≡ Some g → g ≡ f
    is_f g gat = let same : Some g ≡ Some f = sym gat ∙ at in cc

    -- a slot's sign is one of the family
    slot_in : (x : ℕ) (k : Slot V) → slot_of slots x ≡ Some k → list_any (nat_eq x) f.signs ≡ true
    slot_in x k e = ap (list_any (nat_eq x)) (trie.layout.members p f at ∙ sym c.signs) ∙ slot_has slots x k e

    in_slot : (x : ℕ) → list_any (nat_eq x) f.signs ≡ true → (k : Slot V) × (slot_of slots x ≡ Some k)
    in_slot x e = has_slot slots x (ap (list_any (nat_eq x)) (c.signs ∙ sym (trie.layout.members p f at)) ∙ e)

    stands_in : (y : ℕ) → 0 < y → sign_at r (f.base + y) ≡ y → (k : Slot V) × (slot_of slots y ≡ Some k)
    stands_in y positive is = in_slot y (stands_sign n r (family_at t.families) trie.layout p f y at positive is)

    not_in : (y : ℕ) → slot_of slots y ≡ None → list_any (nat_eq y) f.signs ≡ false
    not_in y none = elim (cases_Bool (list_any (nat_eq y) f.signs)) [
      | inl e ↦ absurd (let found = in_slot y e in let x = sym none ∙ found.1 in cc)
      | inr e ↦ e
    ]

    pub owned_some : Owned n r t p f.base slots
    owned_some = record {
      distinct = c.distinct;
      stand = λ x k e. sign_stands n r (family_at t.families) trie.layout p f x at (slot_in x k e);
      child = λ x k e. (c.told x k e).child;
      positive = λ x k e. up;
      other_base = λ q g other gat positive e. other (trie.layout.apart q p g f gat at e);
      own_base = λ g gat. (ap (λ (h : Family). h.base) (is_f g gat), up);
      has = λ g y gat positive is. stands_in y positive (ap (λ (h : Family). sign_at r (h.base + y)) (sym (is_f g gat)) ∙ is);
      below = λ y g gat.
          let parent = trie.layout.parent p y g gat in
          let same = is_f parent.above parent.at in
          let found = stands_in y parent.positive (ap (λ (h : Family). sign_at r (h.base + y)) (sym same) ∙ parent.sign) in
          (found.0, found.1, (c.told y found.0 found.1).child ∙ ap (λ (h : Family). child_at r (h.base + y)) (sym same) ∙ parent.child);
      above = λ y k e positive.
          let told = c.told y k e in
          let s = sign_stands n r (family_at t.families) trie.layout p f y at (slot_in y k e) in
          let child : k.child ≡ child_at r (f.base + y) = told.child in
          let down = trie.layout.child p y f at s.0 s.2 (omega arith) in
          (down.0, down.1, down.2 ∙ sym child);
      value = λ y k e. trie.has (p ++ y ∷ []) ∙ ap (value_in r) (parts_cell t.families p y f at (slot_in y k e)) ∙ (c.told y k e).value;
      no_value = λ y e. trie.has (p ++ y ∷ []) ∙ ap (value_in r) (parts_none t.families p y f at (not_in y e));
      size = ap size_of at ∙ ap length (trie.layout.members p f at ∙ sym c.signs) ∙ length-map slots (λ (k : Slot V). k.sign);
      test = λ x. nat_eq (sign_at r (f.base + x)) x;
      signs = c.signs;
      some_test = λ x k e. eq-eqb (sign_at r (f.base + x)) x (c.told x k e).sign;
      none_test = λ x positive e. ne_eqb (sign_at r (f.base + x)) x (λ z. let found = stands_in x positive z in let w = sym e ∙ found.1 in cc);
    }
