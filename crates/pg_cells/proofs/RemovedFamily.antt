-- A family is gone with its last sign.
use Rattle.std.proofs.Common.{◌≡◌, ◌≢◌, ℕ, ◌+◌, ◌<◌, inl, inr, true, false, cond, nat_eq, List, [], ◌∷◌, ◌++◌, length, None, Some, slice_get, sym, ◌∙◌, ap, arith}
use Rattle.std.proofs.lemmas.Bool.{cases_Bool, cases_eq, false≢true}
use Rattle.std.specs.List.{list_any}
use Rattle.pg_types.specs.Placement.{Family, Families, family_at}
use Rattle.pg_types.specs.Inside.PlacementSteps.{without_family}
use Rattle.pg_types.specs.Inside.Placing.{cell_of}
use Rattle.pg_cells.specs.Inside.store.CellRows.{Row, sign_at, child_at, base_at}
use Rattle.pg_cells.specs.Inside.store.Writes.{Frees, SetsBase, SetsChild}
use Rattle.pg_cells.specs.Inside.linked.ValuedFamilies.{Trie}
use Rattle.pg_cells.specs.Inside.families.Layouts.{AreLaidOut, IsParent, IsTrie}
use Rattle.pg_cells.proofs.StringMaps.{without_key, find_without_same, find_without_other, sorted_without, equal_or_not}
use Rattle.pg_cells.proofs.PlacementLaws.{size_of, taken_without}
use Rattle.pg_cells.proofs.LayoutLaws.{sign_stands, stands_sign}
use Rattle.pg_cells.proofs.PlacedFamily.{not_empty, is_same_test, filter_same}
use Rattle.pg_cells.proofs.StringCells.{cell_parts, parts_cell}
use Rattle.pg_cells.proofs.Removing.{signs_left, one_less, left_has, others_test, others_cell, small_left, owner_left}
use Rattle.pg_cells.proofs.RemovedValues.{cell_told, values_removed}

module _ {V : Type 0} (n : ℕ) (r freed values_alone new : Row V) (t : Trie V) (trie : IsTrie n r t) (p : List ℕ) (parent : ℕ) (parent_is : cell_of t.families p ≡ Some parent)
    (f : Family) (at : family_at t.families p ≡ Some f) (s : ℕ) (has : list_any (nat_eq s) f.signs ≡ true) (childless : family_at t.families (p ++ s ∷ []) ≡ None)
    (frees : Frees r freed (f.base + s)) (links : SetsChild freed values_alone parent 0) (flags : SetsBase values_alone new f.base false) (none_left : signs_left s f.signs ≡ []) where
  abbrev fs : Families
  fs = without_family t.families p

  there : (q : List ℕ) → q ≢ p → family_at fs q ≡ family_at t.families q
  there q other = find_without_other q p t.families other

  is_f : (g : Family) → family_at t.families p ≡ Some g → g ≡ f
  is_f g gat = let e : Some g ≡ Some f = sym gat ∙ at in cc

  -- a family of the rest is another
  rest : (q : List ℕ) (g : Family) → family_at fs q ≡ Some g → (q ≢ p) × (family_at t.families q ≡ Some g)
  rest q g gat = elim (equal_or_not q p) [
    | inl e ↦ absurd (let none = ap (family_at fs) e.0 ∙ find_without_same p t.families in let x = sym none ∙ gat in cc)
    | inr e ↦ (e.0, sym (there q e.0) ∙ gat)
  ]

  sign_now : (i : ℕ) → sign_at new i ≡ sign_at freed i
  sign_now i = flags.signs i ∙ elim (cases_eq i parent) [
    | inl e ↦ ap (sign_at values_alone) e ∙ links.sign_is ∙ ap (sign_at freed) (sym e)
    | inr other ↦ links.elsewhere.signs i other
  ]

  value_now : (i : ℕ) → slice_get new.values i ≡ slice_get freed.values i
  value_now i = flags.values i ∙ elim (cases_eq i parent) [
    | inl e ↦ ap (slice_get values_alone.values) e ∙ links.value_is ∙ ap (slice_get freed.values) (sym e)
    | inr other ↦ links.elsewhere.values i other
  ]

  child_now : (i : ℕ) → i ≢ parent → child_at new i ≡ child_at freed i
  child_now i other = flags.children i ∙ links.elsewhere.children i other

  parent_child : child_at new parent ≡ 0
  parent_child = flags.children parent ∙ links.child_is

  base_now : (b : ℕ) → b ≢ f.base → base_at new b ≡ base_at r b
  base_now b other = flags.bases b other ∙ links.elsewhere.bases b ∙ frees.elsewhere.bases b

  gone : sign_at new (f.base + s) ≡ 0
  gone = sign_now (f.base + s) ∙ frees.sign_is

  same : (i : ℕ) → i ≢ f.base + s → sign_at new i ≡ sign_at r i
  same i other = sign_now i ∙ frees.elsewhere.signs i other

  -- the family had no other sign
  only : (y : ℕ) → list_any (nat_eq y) f.signs ≡ true → y ≡ s
  only y e = elim (cases_eq y s) [
    | inl is ↦ is
    | inr other ↦ absurd (false≢true (ap (list_any (nat_eq y)) (sym none_left) ∙ left_has n r new t trie p f at s has gone same y other ∙ e))
  ]

  -- the cell of another string than p is not the parent's
  not_parent : (q : List ℕ) (g : Family) (y : ℕ) → family_at t.families q ≡ Some g → sign_at r (g.base + y) ≡ y → q ++ y ∷ [] ≢ p → g.base + y ≢ parent
  not_parent q g y gat is other e =
      let cell = cell_parts t.families p parent parent_is in
      let stands = sign_stands n r (family_at t.families) trie.layout cell.front cell.family cell.last cell.at cell.has in
      let sign : y ≡ cell.last = sym is ∙ ap (sign_at r) (e ∙ cell.is) ∙ stands.2 in
      let bases : g.base ≡ cell.family.base = let w = cell.is in omega arith in
      let fronts = trie.layout.apart q cell.front g cell.family gat cell.at bases in
      other ((λ i. fronts i ++ sign i ∷ []) ∙ sym cell.whole)

  -- and that of p is
  is_parent : (q : List ℕ) (g : Family) (y : ℕ) → family_at t.families q ≡ Some g → q ++ y ∷ [] ≡ p → list_any (nat_eq y) g.signs ≡ true → g.base + y ≡ parent
  is_parent q g y gat e in_g =
      let both : Some parent ≡ Some (g.base + y) = sym parent_is ∙ ap (cell_of t.families) (sym e) ∙ parts_cell t.families q y g gat in_g in cc

  parent_left : (q : List ℕ) (x : ℕ) (g : Family) → family_at fs (q ++ x ∷ []) ≡ Some g → IsParent new (family_at fs) q x g
  parent_left q x g gat =
      let o = rest (q ++ x ∷ []) g gat in
      let up = trie.layout.parent q x g o.1 in
      let other : q ≢ p = λ e.
      let family = is_f up.above (ap (family_at t.families) (sym e) ∙ up.at) in
      let in_f = stands_sign n r (family_at t.families) trie.layout p f x at up.positive (ap (λ (h : Family). sign_at r (h.base + x)) (sym family) ∙ up.sign) in
      let is = only x in_f in
      let none = sym childless ∙ sym (λ i. family_at t.families (e i ++ is i ∷ [])) ∙ o.1 in cc in
      record {
        above = up.above;
        at = there q other ∙ up.at;
        sign = is_same_test (sign_at new (up.above.base + x)) (sign_at r (up.above.base + x)) x (others_test n r new t trie p f at s has gone same q up.above x other up.at up.positive) up.sign;
        child =
            child_now (up.above.base + x) (not_parent q up.above x up.at up.sign o.0)
            ∙ frees.elsewhere.children (up.above.base + x) (others_cell n r new t trie p f at s has gone same q up.above x other up.at up.sign) ∙ up.child;
        base = up.base;
        positive = up.positive;
      }

  child_left : (q : List ℕ) (x : ℕ) (g : Family) → family_at fs q ≡ Some g → 0 < x → sign_at new (g.base + x) ≡ x → 0 < child_at new (g.base + x)
      → (h : Family) × (family_at fs (q ++ x ∷ []) ≡ Some h) × (h.base ≡ child_at new (g.base + x))
  child_left q x g gat up is down =
      let o = rest q g gat in
      let sign = is_same_test (sign_at r (g.base + x)) (sign_at new (g.base + x)) x (sym (others_test n r new t trie p f at s has gone same q g x o.0 o.1 up)) is in
      let off : g.base + x ≢ parent = λ e. let z = ap (child_at new) e ∙ parent_child in omega arith in
      let child = child_now (g.base + x) off ∙ frees.elsewhere.children (g.base + x) (others_cell n r new t trie p f at s has gone same q g x o.0 o.1 sign) in
      let below = trie.layout.child q x g o.1 up sign (omega arith) in
      let in_g = stands_sign n r (family_at t.families) trie.layout q g x o.1 up sign in
      (below.0, there (q ++ x ∷ []) (λ e. off (is_parent q g x o.1 e in_g)) ∙ below.1, below.2 ∙ sym child)

  laid_left : AreLaidOut n new (family_at fs)
  laid_left =
      let cell = cell_parts t.families p parent parent_is in
      record {
        root = there [] (λ e. not_empty cell.front cell.last (sym cell.whole ∙ sym e)) ∙ trie.layout.root;
        members = λ q g gat.
            let o = rest q g gat in
            trie.layout.members q g o.1
            ∙ filter_same (λ x. nat_eq (sign_at r (g.base + x)) x) (λ x. nat_eq (sign_at new (g.base + x)) x) 1 n (omega arith)
            (λ x up. sym (others_test n r new t trie p f at s has gone same q g x o.0 o.1 up));
        filled = λ q g gat. trie.layout.filled q g (rest q g gat).1;
        parent = parent_left;
        child = child_left;
        apart = λ q u g h a b e. trie.layout.apart q u g h (rest q g a).1 (rest u h b).1 e;
        owned = λ i taken.
            let o = owner_left n r new t trie p f at s has gone same i taken in (
              o.1.0,
              o.1.1,
              there o.1.0 (λ e.
                  let family = is_f o.1.1 (ap (family_at t.families) (sym e) ∙ o.1.2) in
                  let is : i ≡ f.base + sign_at new i = o.1.3 ∙ ap (λ (h : Family). h.base + sign_at new i) family in
                  let stands : sign_at r (f.base + sign_at new i) ≡ sign_at new i = ap (sign_at r) (sym is) ∙ sym (same i o.0) in
                  let sign = only (sign_at new i) (stands_sign n r (family_at t.families) trie.layout p f (sign_at new i) at (omega arith) stands) in
                  o.0 (is ∙ ap (λ x. f.base + x) sign)) ∙ o.1.2,
              o.1.3,
            );
        small = small_left n r new t trie p f at s has gone same;
        flag = λ q g gat.
            let o = rest q g gat in
            base_now g.base (λ e. o.0 (trie.layout.apart q p g f o.1 at e)) ∙ trie.layout.flag q g o.1;
        flagged = λ b e.
            let other : b ≢ f.base = λ z. false≢true (sym (ap (base_at new) z ∙ flags.base_is) ∙ e) in
            let o = trie.layout.flagged b (sym (base_now b other) ∙ e) in
            (o.0, o.1, there o.0 (λ is. other (sym o.3 ∙ ap (λ (h : Family). h.base) (is_f o.1 (ap (family_at t.families) (sym is) ∙ o.2)))) ∙ o.2, o.3);
      }

  pub trie_gone : IsTrie n new (record { families = without_family t.families p; values = without_key (p ++ s ∷ []) t.values })
  trie_gone = record {
    sorted = sorted_without p t.families trie.sorted;
    layout = laid_left;
    count = omega (
      arith,
      frees.count,
      links.count,
      flags.count,
      trie.count,
      taken_without p t.families trie.sorted,
      ap size_of at,
      one_less n r new t trie p f at s has gone same,
      ap length none_left,
    );
    ordered = sorted_without (p ++ s ∷ []) t.values trie.ordered;
    has = values_removed n r new t trie fs p s there (ap (λ o. cell_told o s) (find_without_same p t.families))
        (λ y other. ap (λ o. cell_told o y) (find_without_same p t.families) ∙ sym (ap (λ o. cell_told o y) at ∙ ap (λ b. cond b (Some (f.base + y)) None) (lacks y other)))
        values;
  }
    where
      lacks : (y : ℕ) → y ≢ s → list_any (nat_eq y) f.signs ≡ false
      lacks y other = elim (cases_Bool (list_any (nat_eq y) f.signs)) [ inl e ↦ absurd (other (only y e)) | inr e ↦ e ]

      values : (q : List ℕ) (g : Family) (y : ℕ) → q ++ y ∷ [] ≢ p ++ s ∷ [] → family_at t.families q ≡ Some g → sign_at r (g.base + y) ≡ y → 0 < y
          → slice_get new.values (g.base + y) ≡ slice_get r.values (g.base + y)
      values q g y other gat is up = value_now (g.base + y) ∙ frees.elsewhere.values (g.base + y) (elim (equal_or_not q p) [
        | inl e ↦ λ z.
            let family = is_f g (ap (family_at t.families) (sym e.0) ∙ gat) in
            let bases : g.base ≡ f.base = ap (λ (h : Family). h.base) family in
            let sign : y ≡ s = omega arith in
            other (λ i. e.0 i ++ sign i ∷ [])
        | inr e ↦ others_cell n r new t trie p f at s has gone same q g y e.0 gat is
      ])
