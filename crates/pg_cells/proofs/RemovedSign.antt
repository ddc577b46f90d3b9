-- A sign is taken out of a family that keeps others.
use Rattle.std.proofs.Common.{◌≡◌, ◌≢◌, ℕ, ◌+◌, ◌<◌, inl, inr, true, cond, nat_eq, List, [], ◌∷◌, ◌++◌, None, Some, slice_get, sym, ◌∙◌, ap, arith}
use Rattle.std.specs.List.{list_any}
use Rattle.std.specs.FinMap.{put}
use Rattle.pg_types.specs.Placement.{Family, Families, family_at}
use Rattle.pg_types.specs.Inside.Placing.{cell_of}
use Rattle.pg_cells.specs.Inside.store.CellRows.{Row, sign_at, child_at, base_at}
use Rattle.pg_cells.specs.Inside.store.Writes.{Frees}
use Rattle.pg_cells.specs.Inside.linked.ValuedFamilies.{Trie}
use Rattle.pg_cells.specs.Inside.families.Layouts.{IsTrie}
use Rattle.pg_cells.proofs.StringMaps.{order, without_key, find_put_same, find_put_other, sorted_put, sorted_without, equal_or_not}
use Rattle.pg_cells.proofs.PlacementLaws.{size_of, taken_put}
use Rattle.pg_cells.proofs.PlacedFamily.{Settles, settles, not_longer}
use Rattle.pg_cells.proofs.StringCells.{cell_parts}
use Rattle.pg_cells.proofs.Removing.{signs_left, left_stands, not_left, one_less, left_has, others_test, others_cell, small_left, owner_left}
use Rattle.pg_cells.proofs.RemovedValues.{cell_told, values_removed}

module _ {V : Type 0} (n : ℕ) (r new : Row V) (t : Trie V) (trie : IsTrie n r t) (p : List ℕ) (parent : ℕ) (parent_is : cell_of t.families p ≡ Some parent)
    (f : Family) (at : family_at t.families p ≡ Some f) (s : ℕ) (has : list_any (nat_eq s) f.signs ≡ true) (childless : family_at t.families (p ++ s ∷ []) ≡ None)
    (frees : Frees r new (f.base + s)) (some : signs_left s f.signs ≢ []) where
  abbrev pub left : Family
  left = record { base = f.base; signs = signs_left s f.signs }

  abbrev fs : Families
  fs = put order p left t.families

  same : (i : ℕ) → i ≢ f.base + s → sign_at new i ≡ sign_at r i
  same i other = frees.elsewhere.signs i other

  here : family_at fs p ≡ Some left
  here = find_put_same p left t.families

  there : (q : List ℕ) → q ≢ p → family_at fs q ≡ family_at t.families q
  there q other = find_put_other q p left t.families other

  is_f : (g : Family) → family_at t.families p ≡ Some g → g ≡ f
  is_f g gat = let e : Some g ≡ Some f = sym gat ∙ at in cc

  -- a cell with a sign other than the freed one
  not_freed : (y : ℕ) → 0 < y → sign_at new (f.base + y) ≡ y → f.base + y ≢ f.base + s
  not_freed y up is e = let z = ap (sign_at new) e ∙ frees.sign_is in omega arith

  step : Settles n r new (family_at t.families) (family_at fs) p left
  step =
      let cell = cell_parts t.families p parent parent_is in
      let up = trie.layout.parent cell.front cell.last f (ap (family_at t.families) (sym cell.whole) ∙ at) in
      let front_other : cell.front ≢ p = λ e. not_longer cell.front cell.last (sym cell.whole ∙ sym e) in
      let apart = others_cell n r new t trie p f at s has frees.sign_is same cell.front up.above cell.last front_other up.at up.sign in
      record {
        here = here;
        there = there;
        front = cell.front;
        last = cell.last;
        whole = cell.whole;
        above = up.above;
        above_at = up.at;
        above_sign = same (up.above.base + cell.last) apart ∙ up.sign;
        above_child = frees.elsewhere.children (up.above.base + cell.last) apart ∙ up.child;
        base_up = up.base;
        last_up = up.positive;
        members = left_stands n r new t trie p f at s has frees.sign_is same;
        filled = some;
        own_down = λ y g gat.
            let down = trie.layout.parent p y g gat in
            let family = is_f down.above down.at in
            let other : f.base + y ≢ f.base + s = λ e.
            let is : y ≡ s = omega arith in
            let none = sym childless ∙ ap (λ z. family_at t.families (p ++ z ∷ [])) (sym is) ∙ gat in cc in (
              same (f.base + y) other ∙ ap (λ (h : Family). sign_at r (h.base + y)) (sym family) ∙ down.sign,
              frees.elsewhere.children (f.base + y) other ∙ ap (λ (h : Family). child_at r (h.base + y)) (sym family) ∙ down.child,
            );
        own_up = λ y positive is down.
            let other = not_freed y positive is in
            let child = frees.elsewhere.children (f.base + y) other in
            let below = trie.layout.child p y f at positive (sym (same (f.base + y) other) ∙ is) (omega arith) in
            (below.0, below.1, below.2 ∙ sym child);
        test = others_test n r new t trie p f at s has frees.sign_is same;
        child = λ q g y other gat positive is no_child. frees.elsewhere.children (g.base + y) (others_cell n r new t trie p f at s has frees.sign_is same q g y other gat is);
        base = λ q g other gat e. other (trie.layout.apart q p g f gat at e);
        owned = λ i taken.
            let o = owner_left n r new t trie p f at s has frees.sign_is same i taken in
            elim (equal_or_not o.1.0 p) [
              | inl e ↦
                  let family = is_f o.1.1 (ap (family_at t.families) (sym e.0) ∙ o.1.2) in
                  (p, left, here, o.1.3 ∙ ap (λ (h : Family). h.base + sign_at new i) family)
              | inr e ↦ (o.1.0, o.1.1, there o.1.0 e.0 ∙ o.1.2, o.1.3)
            ];
        small = small_left n r new t trie p f at s has frees.sign_is same;
        flag = λ q g gat. frees.elsewhere.bases g.base ∙ elim (equal_or_not q p) [
          | inl e ↦
              let is : Some g ≡ Some left = sym gat ∙ ap (family_at fs) e.0 ∙ here in
              let family : g ≡ left = cc in
              ap (λ (h : Family). base_at r h.base) family ∙ trie.layout.flag p f at
          | inr e ↦ trie.layout.flag q g (sym (there q e.0) ∙ gat)
        ];
        flagged = λ b e.
            let o = trie.layout.flagged b (sym (frees.elsewhere.bases b) ∙ e) in
            elim (equal_or_not o.0 p) [
              | inl is ↦
                  let family = is_f o.1 (ap (family_at t.families) (sym is.0) ∙ o.2) in
                  (p, left, here, ap (λ (h : Family). h.base) (sym family) ∙ o.3)
              | inr other ↦ (o.0, o.1, there o.0 other.0 ∙ o.2, o.3)
            ];
      }

  pub trie_left : IsTrie n new (record { families = put order p left t.families; values = without_key (p ++ s ∷ []) t.values })
  trie_left = record {
    sorted = sorted_put p left t.families trie.sorted;
    layout = settles n r new (family_at t.families) (family_at fs) p left trie.layout step;
    count = omega (arith, frees.count, trie.count, taken_put p left t.families trie.sorted, ap size_of at, one_less n r new t trie p f at s has frees.sign_is same);
    ordered = sorted_without (p ++ s ∷ []) t.values trie.ordered;
    has = values_removed n r new t trie fs p s there
        (ap (λ o. cell_told o s) here ∙ ap (λ b. cond b (Some (f.base + s)) None) (not_left n r new t trie p f at s has frees.sign_is same))
        (λ y other. ap (λ o. cell_told o y) here ∙ ap (λ b. cond b (Some (f.base + y)) None) (left_has n r new t trie p f at s has frees.sign_is same y other) ∙ ap (λ o. cell_told o y) (sym at))
        values;
  }
    where
      values : (q : List ℕ) (g : Family) (y : ℕ) → q ++ y ∷ [] ≢ p ++ s ∷ [] → family_at t.families q ≡ Some g → sign_at r (g.base + y) ≡ y → 0 < y
          → slice_get new.values (g.base + y) ≡ slice_get r.values (g.base + y)
      values q g y other gat is up = frees.elsewhere.values (g.base + y) (elim (equal_or_not q p) [
        | inl e ↦ λ z.
            let family = is_f g (ap (family_at t.families) (sym e.0) ∙ gat) in
            let bases : g.base ≡ f.base = ap (λ (h : Family). h.base) family in
            let sign : y ≡ s = omega arith in
            other (λ i. e.0 i ++ sign i ∷ [])
        | inr e ↦ others_cell n r new t trie p f at s has frees.sign_is same q g y e.0 gat is
      ])
