-- What is always true of what the cells are seen as.
use Rattle.std.proofs.Common.{◌≡◌, ℕ, ◌+◌, ◌<◌, ◌≤◌, ◌⊎◌, inl, inr, Bool, true, false, cond, nat_eq, List, [], ◌∷◌, ◌++◌, filter, length, Option, None, Some, slice_get, suc, zero, refl, sym, ◌∙◌, ap, arith, zero-add}
use Rattle.std.proofs.lemmas.List.{length_push, append_assoc, append-nil, same_from_push}
use Rattle.std.proofs.lemmas.Option.{slice_get_cases}
use Rattle.std.specs.List.{range_with_len}
use Rattle.std.specs.Option.{option_map, is_some}
use Rattle.std.specs.FinMap.{find}
use Rattle.pg_types.specs.Placement.{Family, family_at, base_of}
use Rattle.pg_types.specs.Inside.Placing.{cell_of}
use Rattle.pg_cells.specs.Inside.store.CellRows.{Row, sign_at}
use Rattle.pg_cells.specs.Inside.linked.ValuedFamilies.{Trie}
use Rattle.pg_cells.specs.Inside.linked.AreValuedFamilies.{AreValuedFamilies}
use Rattle.pg_cells.specs.Inside.families.Layouts.{IsTrie, value_in}
use Rattle.pg_cells.specs.Inside.families.OneTrie.{HasLast, last_of}
use Rattle.pg_cells.proofs.RowCells.{taken_within}
use Rattle.pg_cells.proofs.StringMaps.{order}
use Rattle.pg_cells.proofs.BaseCells.{first_sign}
use Rattle.pg_cells.proofs.LayoutLaws.{same_filter, sign_stands, stands_sign}
use Rattle.pg_cells.proofs.RootTrie.{any_range}
use Rattle.pg_cells.proofs.StringCells.{cell_parts, parts_cell, cell_taken, cells_apart, base_parts, found_is}

module _ {V : Type 0} (n : ℕ) (r : Row V) (t : Trie V) (trie : IsTrie n r t) (even : length r.values ≡ length r.signs) where
  in_values : (cell : ℕ) → cell < length r.signs → (v : V) × (slice_get r.values cell ≡ Some v)
  in_values cell lt = elim ((slice_get_cases r.values cell).1) [
    | inl h ↦ (h.0, h.2)
    | inr h ↦ absurd (omega (arith, h.0))
  ]

  has_cell : (q : List ℕ) (v : V) (o : Option ℕ) → cell_of t.families q ≡ o → find order q t.values ≡ Some v → (cell : ℕ) × (cell_of t.families q ≡ Some cell)
  has_cell q v None is e = absurd (let none = trie.has q ∙ ap (value_in r) is in let x = sym none ∙ e in cc)
  has_cell q v (Some cell) is e = (cell, is)

  -- the parent of a family has a cell
  family_cell : (p : List ℕ) (x : ℕ) (f : Family) → family_at t.families (p ++ x ∷ []) ≡ Some f → (cell : ℕ) × (cell_of t.families (p ++ x ∷ []) ≡ Some cell)
  family_cell p x f at =
      let up = trie.layout.parent p x f at in
      (up.above.base + x, parts_cell t.families p x up.above up.at (stands_sign n r (family_at t.families) trie.layout p up.above x up.at up.positive up.sign))

  -- and so has each string on the way to it
  way_cell : (k : ℕ) (p : List ℕ) (x : ℕ) (more : List ℕ) (f : Family) → length more ≤ k → HasLast more ⊎ (more ≡ []) → family_at t.families ((p ++ x ∷ []) ++ more) ≡ Some f
      → (cell : ℕ) × (cell_of t.families (p ++ x ∷ []) ≡ Some cell)
  way_cell k p x more f le (inr e) at = family_cell p x f (ap (family_at t.families) (sym (append-nil (p ++ x ∷ [])) ∙ ap (λ l. (p ++ x ∷ []) ++ l) (sym e)) ∙ at)
  way_cell zero p x more f le (inl h) at = absurd (omega (arith, ap length h.whole, length_push h.front h.last))
  way_cell (suc k) p x more f le (inl h) at =
      let whole : ((p ++ x ∷ []) ++ h.front) ++ h.last ∷ [] ≡ (p ++ x ∷ []) ++ more = append_assoc (p ++ x ∷ []) h.front (h.last ∷ []) ∙ ap (λ l. (p ++ x ∷ []) ++ l) (sym h.whole) in
      let up = trie.layout.parent ((p ++ x ∷ []) ++ h.front) h.last f (ap (family_at t.families) whole ∙ at) in
      way_cell k p x h.front up.above (omega (arith, ap length h.whole, length_push h.front h.last)) (swap (last_of h.front)) up.at
    where
      swap : {A B : Type 0} → A ⊎ B → B ⊎ A
      swap (inl a) = inr a
      swap (inr b) = inl b

  none_longer : (p : List ℕ) (x : ℕ) (more : List ℕ) → cell_of t.families (p ++ x ∷ []) ≡ None → cell_of t.families ((p ++ x ∷ []) ++ more) ≡ None
  none_longer p x more none = elim (last_of more) [
    | inl e ↦ ap (cell_of t.families) (ap (λ l. (p ++ x ∷ []) ++ l) e ∙ append-nil (p ++ x ∷ [])) ∙ none
    | inr h ↦ by h (cell_of t.families ((p ++ x ∷ []) ++ more)) refl
  ]
    where
      by : HasLast more → (o : Option ℕ) → cell_of t.families ((p ++ x ∷ []) ++ more) ≡ o → cell_of t.families ((p ++ x ∷ []) ++ more) ≡ None
      by h None is = is
      by h (Some cell) is =
          let whole : ((p ++ x ∷ []) ++ h.front) ++ h.last ∷ [] ≡ (p ++ x ∷ []) ++ more = append_assoc (p ++ x ∷ []) h.front (h.last ∷ []) ∙ ap (λ l. (p ++ x ∷ []) ++ l) (sym h.whole) in
          let c = cell_parts t.families ((p ++ x ∷ []) ++ more) cell is in
          let parts = same_from_push ((p ++ x ∷ []) ++ h.front) c.front h.last c.last (whole ∙ c.whole) in
          let there = way_cell (length h.front) p x h.front c.family (omega arith) (swap (last_of h.front)) (ap (family_at t.families) parts.0 ∙ c.at) in
          absurd (let w = sym none ∙ there.1 in cc)
        where
          swap : {A B : Type 0} → A ⊎ B → B ⊎ A
          swap (inl a) = inr a
          swap (inr b) = inl b

  bases : (p q : List ℕ) (base : ℕ) → base_of t.families p ≡ Some base → base_of t.families q ≡ Some base → p ≡ q
  bases p q base d e =
      let f = base_parts t.families p base d in
      let g = base_parts t.families q base e in
      trie.layout.apart p q f.0 g.0 f.1 g.1 (f.2 ∙ sym g.2)

  members : (p : List ℕ) (f : Family) → family_at t.families p ≡ Some f → f.signs ≡ filter (λ x. is_some (cell_of t.families (p ++ x ∷ []))) (range_with_len 1 n)
  members p f at =
      trie.layout.members p f at
      ∙ same_filter (λ x. nat_eq (sign_at r (f.base + x)) x) (λ x. is_some (cell_of t.families (p ++ x ∷ []))) 1 n
      (λ x low high. shown (nat_eq (sign_at r (f.base + x)) x) (f.base + x) ∙ ap is_some (sym (found_is n r t trie p f.base x (ap (option_map (λ (g : Family). g.base)) at) low (omega arith))))
    where
      shown : (b : Bool) (cell : ℕ) → b ≡ is_some (cond b (Some cell) None)
      shown true cell = refl
      shown false cell = refl

  pub is_held : AreValuedFamilies (record { signs = n; families = t.families; values = t.values })
  is_held = record {
    sorted = trie.sorted;
    ordered = trie.ordered;
    valued = λ q cell e.
        let v = in_values cell (taken_within r cell (cell_taken n r t trie q cell e)) in
        (v.0, trie.has q ∙ ap (value_in r) e ∙ v.1);
    celled = λ q v e. has_cell q v (cell_of t.families q) refl e;
    signs = λ p x cell e.
        let c = cell_parts t.families (p ++ x ∷ []) cell e in
        let parts = same_from_push p c.front x c.last c.whole in
        let s = sign_stands n r (family_at t.families) trie.layout c.front c.family c.last c.at c.has in
        (let is = parts.1 in let up = s.0 in omega arith, let is = parts.1 in let le = s.1 in omega arith);
    apart = cells_apart n r t trie;
    root = ap (option_map (λ (f : Family). f.base)) trie.layout.root;
    alone = λ x low high.
        parts_cell t.families [] x (record { base = 0; signs = range_with_len 1 n }) trie.layout.root (any_range 1 n x low (omega arith)) ∙ ap Some (zero-add x);
    based = λ p x base e. let f = base_parts t.families (p ++ x ∷ []) base e in family_cell p x f.0 f.1;
    filled = λ p base e.
        let f = base_parts t.families p base e in
        let y = first_sign f.0 f.0.signs refl (trie.layout.filled p f.0 f.1) in
        (y.0, f.0.base + y.0, parts_cell t.families p y.0 f.0 f.1 y.1);
    none_longer = none_longer;
    bases = bases;
    members = members;
  }
