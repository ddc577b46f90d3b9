-- The cell of a string, its base, its value and the family below it, in a row that holds the trie.
use Rattle.std.proofs.Common.{◌≡◌, ◌≢◌, ℕ, ◌+◌, ◌<◌, ◌≤◌, inl, inr, true, false, cond, nat_eq, List, [], ◌∷◌, ◌++◌, length, Option, None, Some, slice_get, refl, sym, ◌∙◌, ap, arith, zero-add}
use Rattle.std.proofs.lemmas.Bool.{cases_Bool, cases_eq, cases_lt, eq-eqb, ne_eqb, both_ways}
use Rattle.std.proofs.lemmas.List.{get_or_past}
use Rattle.std.specs.List.{list_any, range_with_len}
use Rattle.std.specs.Option.{option_map}
use Rattle.std.specs.FinMap.{find, put}
use Rattle.pg_types.specs.Placement.{Family, Families, family_at, base_of, top}
use Rattle.pg_types.specs.Inside.PlacementSteps.{cell_in}
use Rattle.pg_types.specs.Inside.Placing.{cell_of}
use Rattle.pg_types.proofs.LeastBase.{used_le_top}
use Rattle.pg_cells.specs.Inside.store.CellRows.{Row, sign_at, child_at, base_at}
use Rattle.pg_cells.specs.Inside.store.Writes.{SetsRowValue}
use Rattle.pg_cells.specs.Inside.linked.ValuedFamilies.{Trie}
use Rattle.pg_cells.specs.Inside.families.Layouts.{IsTrie, value_in}
use Rattle.pg_cells.specs.Inside.families.OneTrie.{last_of}
use Rattle.pg_cells.proofs.StringMaps.{order, find_put_same, find_put_other, sorted_put, equal_or_not}
use Rattle.pg_cells.proofs.RowCells.{taken_within}
use Rattle.pg_cells.proofs.RootTrie.{any_range}
use Rattle.pg_cells.proofs.PlacementLaws.{cell_of_last, cell_used}
use Rattle.pg_cells.proofs.LayoutLaws.{sign_stands, stands_sign, laid_alike}

-- the string q has the cell: it is a sign of a family
pub record IsCellOf (fs : Families) (q : List ℕ) (cell : ℕ) : Type 0 where
  pub front : List ℕ
  pub last : ℕ
  pub whole : q ≡ front ++ last ∷ []
  pub family : Family
  pub at : family_at fs front ≡ Some family
  pub has : list_any (nat_eq last) family.signs ≡ true
  pub is : cell ≡ family.base + last

-- what a family gives for a sign
cell_from : (o : Option Family) (x cell : ℕ) → (elim o as (λ _. Option ℕ) [ None ↦ None | Some f ↦ cond (list_any (nat_eq x) f.signs) (Some (f.base + x)) None ]) ≡ Some cell
    → (f : Family) × (o ≡ Some f) × (list_any (nat_eq x) f.signs ≡ true) × (cell ≡ f.base + x)
cell_from None x cell e = cc
cell_from (Some f) x cell e = elim (cases_Bool (list_any (nat_eq x) f.signs)) [
  | inl has ↦
      let same : Some (f.base + x) ≡ Some cell = ap (λ b. cond b (Some (f.base + x)) None) (sym has) ∙ e in
      (f, refl, has, let is : cell ≡ f.base + x = cc in is)
  | inr lacks ↦ absurd (let none : None ≡ Some cell = ap (λ b. cond b (Some (f.base + x)) None) (sym lacks) ∙ e in cc)
]

pub cell_parts : (fs : Families) (q : List ℕ) (cell : ℕ) → cell_of fs q ≡ Some cell → IsCellOf fs q cell
cell_parts fs q cell e = elim (last_of q) [
  | inl empty ↦ absurd (let none : cell_of fs [] ≡ Some cell = ap (cell_of fs) (sym empty) ∙ e in cc)
  | inr h ↦
      let here : cell_in fs h.front h.last ≡ Some cell = sym (cell_of_last fs h.front h.last) ∙ ap (cell_of fs) (sym h.whole) ∙ e in
      let f = cell_from (family_at fs h.front) h.last cell here in
      record { front = h.front; last = h.last; whole = h.whole; family = f.0; at = f.1; has = f.2; is = f.3 }
]

pub parts_cell : (fs : Families) (p : List ℕ) (x : ℕ) (f : Family) → family_at fs p ≡ Some f → list_any (nat_eq x) f.signs ≡ true → cell_of fs (p ++ x ∷ []) ≡ Some (f.base + x)
parts_cell fs p x f at has =
    cell_of_last fs p x
    ∙ ap (λ o. elim o as (λ _. Option ℕ) [ None ↦ None | Some g ↦ cond (list_any (nat_eq x) g.signs) (Some (g.base + x)) None ]) at
    ∙ ap (λ b. cond b (Some (f.base + x)) None) has

pub parts_none : (fs : Families) (p : List ℕ) (x : ℕ) (f : Family) → family_at fs p ≡ Some f → list_any (nat_eq x) f.signs ≡ false → cell_of fs (p ++ x ∷ []) ≡ None
parts_none fs p x f at lacks =
    cell_of_last fs p x
    ∙ ap (λ o. elim o as (λ _. Option ℕ) [ None ↦ None | Some g ↦ cond (list_any (nat_eq x) g.signs) (Some (g.base + x)) None ]) at
    ∙ ap (λ b. cond b (Some (f.base + x)) None) lacks

base_from : (o : Option Family) (b : ℕ) → option_map (λ f. f.base) o ≡ Some b → (f : Family) × (o ≡ Some f) × (f.base ≡ b)
base_from None b e = cc
base_from (Some f) b e = (f, refl, let is : f.base ≡ b = cc in is)

pub base_parts : (fs : Families) (p : List ℕ) (b : ℕ) → base_of fs p ≡ Some b → (f : Family) × (family_at fs p ≡ Some f) × (f.base ≡ b)
base_parts fs p b e = base_from (family_at fs p) b e

module _ {V : Type 0} (n : ℕ) (r : Row V) (t : Trie V) (trie : IsTrie n r t) where
  pub cell_taken : (q : List ℕ) (cell : ℕ) → cell_of t.families q ≡ Some cell → sign_at r cell ≢ 0
  cell_taken q cell e z =
      let c = cell_parts t.families q cell e in
      let s = sign_stands n r (family_at t.families) trie.layout c.front c.family c.last c.at c.has in
      let same : sign_at r cell ≡ c.last = ap (sign_at r) c.is ∙ s.2 in
      omega (arith, s.0)

  -- a taken cell is that of a string
  pub string_there : (cell : ℕ) → sign_at r cell ≢ 0 → (q : List ℕ) × (cell_of t.families q ≡ Some cell)
  string_there cell taken =
      let o = trie.layout.owned cell taken in
      let s = sign_at r cell in
      let has = stands_sign n r (family_at t.families) trie.layout o.0 o.1 s o.2 (omega arith) (ap (sign_at r) (sym o.3)) in
      (o.0 ++ s ∷ [], parts_cell t.families o.0 s o.1 o.2 has ∙ ap Some (sym o.3))

  pub value_is : (q : List ℕ) (cell : ℕ) (v : V) → cell_of t.families q ≡ Some cell → slice_get r.values cell ≡ Some v → find order q t.values ≡ Some v
  value_is q cell v e at = trie.has q ∙ ap (value_in r) e ∙ at

  pub child_is : (q : List ℕ) (cell : ℕ) → cell_of t.families q ≡ Some cell → base_of t.families q ≡ cond (nat_eq (child_at r cell) 0) None (Some (child_at r cell))
  child_is q cell e =
      let c = cell_parts t.families q cell e in
      let s = sign_stands n r (family_at t.families) trie.layout c.front c.family c.last c.at c.has in
      let child : child_at r cell ≡ child_at r (c.family.base + c.last) = ap (child_at r) c.is in
      elim (cases_eq (child_at r cell) 0) [
        | inl z ↦ none c z (family_at t.families q) refl ∙ ap (λ b. cond b None (Some (child_at r cell))) (sym (eq-eqb (child_at r cell) 0 z))
        | inr up ↦
            let down = trie.layout.child c.front c.last c.family c.at s.0 s.2 (omega arith) in
            ap (base_of t.families) c.whole ∙ ap (option_map (λ (f : Family). f.base)) down.1 ∙ ap Some (down.2 ∙ sym child)
            ∙ ap (λ b. cond b None (Some (child_at r cell))) (sym (ne_eqb (child_at r cell) 0 up))
      ]
    where
      none : (c : IsCellOf t.families q cell) → child_at r cell ≡ 0 → (o : Option Family) → family_at t.families q ≡ o → option_map (λ f. f.base) (family_at t.families q) ≡ None
      none c z None is = ap (option_map (λ (f : Family). f.base)) is
      none c z (Some f) is =
          let up = trie.layout.parent c.front c.last f (ap (family_at t.families) (sym c.whole) ∙ is) in
          let same : Some up.above ≡ Some c.family = sym up.at ∙ c.at in
          let above : up.above ≡ c.family = cc in
          let child : child_at r cell ≡ f.base = ap (child_at r) c.is ∙ ap (λ (g : Family). child_at r (g.base + c.last)) (sym above) ∙ up.child in
          absurd (let base = up.base in omega arith)

  -- a base is an index of the row
  pub base_within : (p : List ℕ) (base : ℕ) → base_of t.families p ≡ Some base → base < length r.bases
  base_within p base e =
      let b = base_parts t.families p base e in
      let flag : base_at r base ≡ true = ap (base_at r) (sym b.2) ∙ trie.layout.flag p b.0 b.1 in
      elim (cases_lt base (length r.bases)) [
        | inl lt ↦ lt
        | inr le ↦ absurd (both_ways (base_at r base) (get_or_past r.bases base false le) flag)
      ]

  pub root_within : 1 ≤ n → n < length r.signs
  root_within some =
      let has = any_range 1 n n some (omega arith) in
      let s = sign_stands n r (family_at t.families) trie.layout [] (record { base = 0; signs = range_with_len 1 n }) n trie.layout.root has in
      taken_within r n (λ z. let e = ap (sign_at r) (sym (zero-add n)) ∙ s.2 in omega arith)

  pub found_is : (p : List ℕ) (base s : ℕ) → base_of t.families p ≡ Some base → 1 ≤ s → s ≤ n → cell_of t.families (p ++ s ∷ []) ≡ cond (nat_eq (sign_at r (base + s)) s) (Some (base + s)) None
  found_is p base s e low high =
      let b = base_parts t.families p base e in
      let there : sign_at r (base + s) ≡ sign_at r (b.0.base + s) = ap (λ y. sign_at r (y + s)) (sym b.2) in
      elim (cases_eq (sign_at r (base + s)) s) [
        | inl is ↦
            parts_cell t.families p s b.0 b.1 (stands_sign n r (family_at t.families) trie.layout p b.0 s b.1 (omega arith) (sym there ∙ is))
            ∙ ap (λ y. Some (y + s)) b.2 ∙ ap (λ x. cond x (Some (base + s)) None) (sym (eq-eqb (sign_at r (base + s)) s is))
        | inr other ↦
            parts_none t.families p s b.0 b.1 (lacks b.0 b.1 (λ z. other (there ∙ z)))
            ∙ ap (λ x. cond x (Some (base + s)) None) (sym (ne_eqb (sign_at r (base + s)) s other))
      ]
    where
      lacks : (f : Family) → family_at t.families p ≡ Some f → sign_at r (f.base + s) ≢ s → list_any (nat_eq s) f.signs ≡ false
      lacks f at other = elim (cases_Bool (list_any (nat_eq s) f.signs)) [
        | inl has ↦ absurd (other (sign_stands n r (family_at t.families) trie.layout p f s at has).2)
        | inr no_sign ↦ no_sign
      ]

  -- a string's cell is its own
  pub cells_apart : (q p : List ℕ) (cell : ℕ) → cell_of t.families q ≡ Some cell → cell_of t.families p ≡ Some cell → q ≡ p
  cells_apart q p cell e d =
      let a = cell_parts t.families q cell e in
      let b = cell_parts t.families p cell d in
      let s = sign_stands n r (family_at t.families) trie.layout a.front a.family a.last a.at a.has in
      let u = sign_stands n r (family_at t.families) trie.layout b.front b.family b.last b.at b.has in
      let last : a.last ≡ b.last = sym s.2 ∙ ap (sign_at r) (sym a.is ∙ b.is) ∙ u.2 in
      let bases : a.family.base ≡ b.family.base = let x = a.is in let y = b.is in omega arith in
      let fronts = trie.layout.apart a.front b.front a.family b.family a.at b.at bases in
      a.whole ∙ (λ i. fronts i ++ last i ∷ []) ∙ sym b.whole

  -- a value is written
  pub value_written : (q : List ℕ) (cell : ℕ) (v : V) (r' : Row V) → cell_of t.families q ≡ Some cell → SetsRowValue r r' cell v
      → IsTrie n r' (record { families = t.families; values = put order q v t.values })
  value_written q cell v r' e w = record {
    sorted = trie.sorted;
    layout = laid_alike (family_at t.families) trie.layout r' signs children w.elsewhere.bases;
    count = w.count ∙ trie.count;
    ordered = sorted_put q v t.values trie.ordered;
    has = has;
  }
    where
      signs : (i : ℕ) → sign_at r' i ≡ sign_at r i
      signs i = elim (cases_eq i cell) [ inl is ↦ ap (sign_at r') is ∙ w.sign_is ∙ ap (sign_at r) (sym is) | inr other ↦ w.elsewhere.signs i other ]

      children : (i : ℕ) → child_at r' i ≡ child_at r i
      children i = elim (cases_eq i cell) [ inl is ↦ ap (child_at r') is ∙ w.child_is ∙ ap (child_at r) (sym is) | inr other ↦ w.elsewhere.children i other ]

      other_value : (p : List ℕ) → p ≢ q → (o : Option ℕ) → cell_of t.families p ≡ o → value_in r o ≡ value_in r' o
      other_value p n None is = refl
      other_value p n (Some i) is = elim (cases_eq i cell) [
        | inl same ↦ absurd (n (cells_apart p q cell (is ∙ ap Some same) e))
        | inr other ↦ sym (w.elsewhere.values i other)
      ]

      has : (p : List ℕ) → find order p (put order q v t.values) ≡ value_in r' (cell_of t.families p)
      has p = elim (equal_or_not p q) [
        | inl h ↦ ap (λ y. find order y (put order q v t.values)) h.0 ∙ find_put_same q v t.values ∙ sym (ap (λ y. value_in r' (cell_of t.families y)) h.0 ∙ ap (value_in r') e ∙ w.value_is)
        | inr h ↦ find_put_other p q v t.values h.0 ∙ trie.has p ∙ other_value p h.0 (cell_of t.families p) refl
      ]

-- no cell of a string is past the top
pub cell_within : (fs : Families) (q : List ℕ) (cell : ℕ) → cell_of fs q ≡ Some cell → cell ≤ top fs
cell_within fs q cell e =
    let c = cell_parts fs q cell e in
    let le = used_le_top fs (c.family.base + c.last) (cell_used fs c.front c.family c.last c.at c.has) in
    let is = c.is in
    omega arith
