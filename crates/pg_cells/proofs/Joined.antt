-- A sign joins its family in place.
use Rattle.std.proofs.Common.{◌≡◌, ◌≢◌, ℕ, ◌+◌, ◌<◌, ◌≤◌, inl, inr, true, false, nat_eq, List, [], ◌∷◌, ◌++◌, Some, refl, sym, ◌∙◌, ap, arith}
use Rattle.std.proofs.lemmas.Bool.{cases_Bool, cases_eq, false≢true, eq-eqb, ne_eqb, eqb-true, both_ways, or_left, or_right, or_cases}
use Rattle.std.specs.List.{list_any}
use Rattle.std.specs.FinMap.{put}
use Rattle.pg_types.specs.Placement.{Family, Families, family_at}
use Rattle.pg_types.specs.Inside.PlacementSteps.{with_one_sign}
use Rattle.pg_types.specs.Inside.Placing.{cell_of}
use Rattle.pg_cells.specs.Inside.store.CellRows.{Row, sign_at, child_at, base_at}
use Rattle.pg_cells.specs.Inside.store.Writes.{Takes}
use Rattle.pg_cells.specs.Inside.linked.ValuedFamilies.{Trie}
use Rattle.pg_cells.specs.Inside.families.Layouts.{IsTrie, signs_at_base, value_in}
use Rattle.pg_cells.proofs.StringMaps.{order, find_put_same, find_put_other, sorted_put, equal_or_not}
use Rattle.pg_cells.proofs.PlacementLaws.{taken_put, size_of}
use Rattle.pg_cells.proofs.OneSign.{filter_more, length_one_more, any_one_more}
use Rattle.pg_cells.proofs.PlacedFamily.{Settles, settles}
use Rattle.pg_cells.proofs.PlacedValues.{HasValues, values_settle}
use Rattle.pg_cells.proofs.StringCells.{cell_parts, parts_cell, parts_none}

-- the family with one sign more
abbrev pub joined : Family → ℕ → Family
joined f s = record { base = f.base; signs = with_one_sign s f.signs }

-- no list with one sign more is empty
pub not_nil : (s : ℕ) (xs : List ℕ) → with_one_sign s xs ≢ []
not_nil s xs e = false≢true (ap (list_any (nat_eq s)) (sym e) ∙ any_one_more s s xs ∙ or_left (nat_eq s s) (list_any (nat_eq s) xs) (eq-eqb s s refl))

module _ {V : Type 0} (n : ℕ) (r new : Row V) (t : Trie V) (trie : IsTrie n r t) (p : List ℕ) (parent : ℕ) (parent_is : cell_of t.families p ≡ Some parent)
    (f : Family) (at : family_at t.families p ≡ Some f) (s : ℕ) (low : 1 ≤ s) (high : s ≤ n) (v : V)
    (lacks : list_any (nat_eq s) f.signs ≡ false) (free : sign_at r (f.base + s) ≡ 0) (takes : Takes r new (f.base + s) s v 0) where
  abbrev fs : Families
  fs = put order p (joined f s) t.families

  -- the sign at a cell is as before, or it is the new one
  sign_same : (i : ℕ) → i ≢ f.base + s → sign_at new i ≡ sign_at r i
  sign_same i other = takes.elsewhere.signs i other

  -- a cell with a sign is not the new one
  not_new : (i y : ℕ) → 0 < y → sign_at r i ≡ y → i ≢ f.base + s
  not_new i y up is z = let e = ap (sign_at r) z ∙ free in omega arith

  same_test : (q : List ℕ) (g : Family) (y : ℕ) → q ≢ p → family_at t.families q ≡ Some g → 0 < y → nat_eq (sign_at new (g.base + y)) y ≡ nat_eq (sign_at r (g.base + y)) y
  same_test q g y other gat up = elim (cases_eq (g.base + y) (f.base + s)) [
    | inr n ↦ ap (λ x. nat_eq x y) (sign_same (g.base + y) n)
    | inl e ↦
        let was : sign_at r (g.base + y) ≡ 0 = ap (sign_at r) e ∙ free in
        let now : sign_at new (g.base + y) ≡ s = ap (sign_at new) e ∙ takes.sign_is in
        ne_eqb (sign_at new (g.base + y)) y (λ z. other (trie.layout.apart q p g f gat at (omega arith)))
        ∙ sym (ne_eqb (sign_at r (g.base + y)) y (λ z. omega arith))
  ]

  stands_more : with_one_sign s f.signs ≡ signs_at_base n new f.base
  stands_more =
      ap (with_one_sign s) (trie.layout.members p f at)
      ∙ sym (filter_more (λ x. nat_eq (sign_at r (f.base + x)) x) (λ x. nat_eq (sign_at new (f.base + x)) x) s 1 n (omega arith)
      (λ x up other. ap (λ y. nat_eq y x) (sign_same (f.base + x) (λ z. other (omega arith))))
      (eq-eqb (sign_at new (f.base + s)) s takes.sign_is)
      (ne_eqb (sign_at r (f.base + s)) s (λ z. omega arith)) low (omega arith))

  owned_now : (i : ℕ) → sign_at new i ≢ 0 → (q : List ℕ) × (g : Family) × (family_at fs q ≡ Some g) × (i ≡ g.base + sign_at new i)
  owned_now i up = elim (cases_eq i (f.base + s)) [
    | inl e ↦ (p, joined f s, find_put_same p (joined f s) t.families, e ∙ ap (λ x. f.base + x) (sym (ap (sign_at new) e ∙ takes.sign_is)))
    | inr n ↦
        let o = trie.layout.owned i (λ z. up (sign_same i n ∙ z)) in
        let is : i ≡ o.1.base + sign_at new i = o.3 ∙ ap (λ x. o.1.base + x) (sym (sign_same i n)) in
        elim (equal_or_not o.0 p) [
          | inl e ↦
              let same : Some o.1 ≡ Some f = sym o.2 ∙ ap (family_at t.families) e.0 ∙ at in
              let family : o.1 ≡ f = cc in
              (p, joined f s, find_put_same p (joined f s) t.families, is ∙ ap (λ (g : Family). g.base + sign_at new i) family)
          | inr e ↦ (o.0, o.1, find_put_other o.0 p (joined f s) t.families e.0 ∙ o.2, is)
        ]
  ]

  small_now : (i : ℕ) → sign_at new i ≤ n
  small_now i = elim (cases_eq i (f.base + s)) [
    | inl e ↦ let is = ap (sign_at new) e ∙ takes.sign_is in omega arith
    | inr other ↦ let is = sign_same i other in let le = trie.layout.small i in omega arith
  ]

  flag_now : (q : List ℕ) (g : Family) → family_at fs q ≡ Some g → base_at new g.base ≡ true
  flag_now q g gat = takes.elsewhere.bases g.base ∙ elim (equal_or_not q p) [
    | inl e ↦
        let same : Some g ≡ Some (joined f s) = sym gat ∙ ap (family_at fs) e.0 ∙ find_put_same p (joined f s) t.families in
        let family : g ≡ joined f s = cc in
        ap (λ (h : Family). base_at r h.base) family ∙ trie.layout.flag p f at
    | inr e ↦ trie.layout.flag q g (sym (find_put_other q p (joined f s) t.families e.0) ∙ gat)
  ]

  flagged_now : (b : ℕ) → base_at new b ≡ true → (q : List ℕ) × (g : Family) × (family_at fs q ≡ Some g) × (g.base ≡ b)
  flagged_now b e =
      let o = trie.layout.flagged b (sym (takes.elsewhere.bases b) ∙ e) in
      elim (equal_or_not o.0 p) [
        | inl same ↦
            let is : Some o.1 ≡ Some f = sym o.2 ∙ ap (family_at t.families) same.0 ∙ at in
            let family : o.1 ≡ f = cc in
            (p, joined f s, find_put_same p (joined f s) t.families, ap (λ (h : Family). h.base) (sym family) ∙ o.3)
        | inr other ↦ (o.0, o.1, find_put_other o.0 p (joined f s) t.families other.0 ∙ o.2, o.3)
      ]

  step : Settles n r new (family_at t.families) (family_at fs) p (joined f s)
  step =
      let cell = cell_parts t.families p parent parent_is in
      let up = trie.layout.parent cell.front cell.last f (ap (family_at t.families) (sym cell.whole) ∙ at) in
      record {
        here = find_put_same p (joined f s) t.families;
        there = λ q other. find_put_other q p (joined f s) t.families other;
        front = cell.front;
        last = cell.last;
        whole = cell.whole;
        above = up.above;
        above_at = up.at;
        above_sign = sign_same (up.above.base + cell.last) (not_new (up.above.base + cell.last) cell.last up.positive up.sign) ∙ up.sign;
        above_child = takes.elsewhere.children (up.above.base + cell.last) (not_new (up.above.base + cell.last) cell.last up.positive up.sign) ∙ up.child;
        base_up = up.base;
        last_up = up.positive;
        members = stands_more;
        filled = not_nil s f.signs;
        own_down = λ y g gat.
            let down = trie.layout.parent p y g gat in
            let same : Some down.above ≡ Some f = sym down.at ∙ at in
            let family : down.above ≡ f = cc in
            let sign : sign_at r (f.base + y) ≡ y = ap (λ (h : Family). sign_at r (h.base + y)) (sym family) ∙ down.sign in
            let old = not_new (f.base + y) y down.positive sign in
            (sign_same (f.base + y) old ∙ sign, takes.elsewhere.children (f.base + y) old ∙ ap (λ (h : Family). child_at r (h.base + y)) (sym family) ∙ down.child);
        own_up = λ y positive is down. elim (cases_eq (f.base + y) (f.base + s)) [
          | inl e ↦ absurd (let none = ap (child_at new) e ∙ takes.child_is in omega arith)
          | inr other ↦
              let child = takes.elsewhere.children (f.base + y) other in
              let below = trie.layout.child p y f at positive (sym (sign_same (f.base + y) other) ∙ is) (omega arith) in
              (below.0, below.1, below.2 ∙ sym child)
        ];
        test = same_test;
        child = λ q g y other gat positive is no_child. takes.elsewhere.children (g.base + y) (not_new (g.base + y) y positive is);
        base = λ q g other gat e. other (trie.layout.apart q p g f gat at e);
        owned = owned_now;
        small = small_now;
        flag = flag_now;
        flagged = flagged_now;
      }

  told : HasValues r new t fs p s v (joined f s)
  told = record {
    here = find_put_same p (joined f s) t.families;
    there = λ q other. find_put_other q p (joined f s) t.families other;
    has = any_one_more s s f.signs ∙ or_left (nat_eq s s) (list_any (nat_eq s) f.signs) (eq-eqb s s refl);
    value = takes.value_is;
    own = λ y other has.
        let in_f : list_any (nat_eq y) f.signs ≡ true = elim (or_cases (nat_eq y s) (list_any (nat_eq y) f.signs) (sym (any_one_more s y f.signs) ∙ has)) [
          | inl e ↦ absurd (other (eqb-true y s e))
          | inr e ↦ e
        ] in
        trie.has (p ++ y ∷ []) ∙ ap (value_in r) (parts_cell t.families p y f at in_f) ∙ sym (takes.elsewhere.values (f.base + y) (λ z. other (omega arith)));
    own_none = λ y other none.
        let not_in : list_any (nat_eq y) f.signs ≡ false = elim (cases_Bool (list_any (nat_eq y) f.signs)) [
          | inl e ↦ absurd (both_ways (list_any (nat_eq y) (with_one_sign s f.signs)) none (any_one_more s y f.signs ∙ or_right (nat_eq y s) (list_any (nat_eq y) f.signs) e))
          | inr e ↦ e
        ] in
        trie.has (p ++ y ∷ []) ∙ ap (value_in r) (parts_none t.families p y f at not_in);
    elsewhere = λ q g y other gat positive is. takes.elsewhere.values (g.base + y) (not_new (g.base + y) y positive is);
  }

  pub trie_joined : IsTrie n new (record { families = put order p (joined f s) t.families; values = put order (p ++ s ∷ []) v t.values })
  trie_joined = record {
    sorted = sorted_put p (joined f s) t.families trie.sorted;
    layout = settles n r new (family_at t.families) (family_at fs) p (joined f s) trie.layout step;
    count = omega (arith, takes.count, trie.count, taken_put p (joined f s) t.families trie.sorted, ap size_of at, length_one_more s f.signs lacks);
    ordered = sorted_put (p ++ s ∷ []) v t.values trie.ordered;
    has = values_settle n r new t trie fs p s v (joined f s) told;
  }
