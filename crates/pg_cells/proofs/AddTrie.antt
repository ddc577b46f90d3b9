-- What `add` needs to know, and what it leaves.
use Rattle.std.proofs.Common.{◌≡◌, ◌≢◌, ℕ, ◌+◌, ◌<◌, ◌≤◌, inl, inr, Bool, true, false, cond, T, nat_eq, List, [], ◌∷◌, ◌++◌, length, Option, None, Some, refl, sym, ◌∙◌, ap, subst, arith}
use Rattle.std.proofs.lemmas.Bool.{cases_Bool, cases_eq, cases_lt, eq-eqb, ne_eqb, both_ways, or_left}
use Rattle.std.proofs.lemmas.List.{get_or_past, get_or_default}
use Rattle.std.specs.List.{list_any}
use Rattle.std.specs.Option.{option_map}
use Rattle.std.specs.FinMap.{find, put, is_sorted}
use Rattle.pg_types.specs.Placement.{Family, Families, family_at, base_of}
use Rattle.pg_types.specs.Inside.PlacementSteps.{is_used, least_base, with_new_sign, with_one_sign, with_placed_family, without_family}
use Rattle.pg_types.specs.Inside.Placing.{cell_of}
use Rattle.pg_cells.specs.declared.store.fit.Slot.{Slot}
use Rattle.pg_cells.specs.Inside.store.CellRows.{Row, sign_at, child_at, base_at, IsFree}
use Rattle.pg_cells.specs.Inside.store.Store.{Extends}
use Rattle.pg_cells.specs.Inside.store.Fit.{slot_signs, slot_of}
use Rattle.pg_cells.specs.Inside.store.Writes.{Takes}
use Rattle.pg_cells.specs.Inside.families.Moves.{IsOutsideFamily, CanPlace, MovesFamily, AreSlotsOf}
use Rattle.pg_cells.specs.Inside.linked.ValuedFamilies.{Trie}
use Rattle.pg_cells.specs.Inside.families.Layouts.{IsTrie, signs_at_base, value_in}
use Rattle.pg_cells.specs.Inside.families.Adding.{with_sign_below}
use Rattle.pg_cells.proofs.RowCells.{taken_within}
use Rattle.pg_cells.proofs.StringMaps.{order, same_maps, find_put_same, find_without_same, find_without_other, sorted_without, equal_or_not}
use Rattle.pg_cells.proofs.BaseCells.{first_sign}
use Rattle.pg_cells.proofs.LayoutLaws.{sign_stands, laid_alike, used_taken, taken_used}
use Rattle.pg_cells.proofs.Slots.{slot_or_none}
use Rattle.pg_cells.proofs.PlacedFamily.{not_longer}
use Rattle.pg_cells.proofs.StringCells.{cell_parts, parts_cell, cell_taken, base_parts, child_is}
use Rattle.pg_cells.proofs.OneSign.{any_one_more}
use Rattle.pg_cells.proofs.Joined.{joined, trie_joined}
use Rattle.pg_cells.proofs.Owned.{Owned, owned_none, owned_some}
use Rattle.pg_cells.proofs.MovedTrie.{trie_moved, base_is}

-- a row with further free cells holds the same trie
pub trie_extended : {V : Type 0} (n : ℕ) (r new : Row V) (t : Trie V) → IsTrie n r t → Extends r new → IsTrie n new t
trie_extended {V} n r new t trie more = record {
  sorted = trie.sorted;
  layout = laid_alike (family_at t.families) trie.layout new more.signs more.children more.bases;
  count = more.taken ∙ trie.count;
  ordered = trie.ordered;
  has = λ q. trie.has q ∙ same q (cell_of t.families q) refl;
}
  where
    same : (q : List ℕ) (o : Option ℕ) → cell_of t.families q ≡ o → value_in r o ≡ value_in new o
    same q None e = refl
    same q (Some cell) e = sym (more.values cell (taken_within r cell (cell_taken n r t trie q cell e)))

-- where there is no family, none is taken away
without_none : (fs : Families) (p : List ℕ) → T (is_sorted order fs) → family_at fs p ≡ None → without_family fs p ≡ fs
without_none fs p sorted none = same_maps (without_family fs p) fs (sorted_without p fs sorted) sorted (λ q. elim (equal_or_not q p) [
  | inl e ↦ ap (family_at (without_family fs p)) e.0 ∙ find_without_same p fs ∙ sym (ap (family_at fs) e.0 ∙ none)
  | inr e ↦ find_without_other q p fs e.0
])

-- the step of the placement, in its three cases
pub sign_new : (n : ℕ) (fs : Families) (p : List ℕ) (s : ℕ) → T (is_sorted order fs) → family_at fs p ≡ None
    → with_new_sign n fs p s ≡ put order p (record { base = least_base n (without_family fs p) (s ∷ []); signs = s ∷ [] }) (without_family fs p)
unfolding with_new_sign
sign_new n fs p s sorted none =
    ap (λ o. elim o as (λ _. Families) [
      | None ↦ with_placed_family n fs p (s ∷ [])
      | Some f ↦ elim (is_used fs (f.base + s)) as (λ _. Families) [
        | false ↦ put order p (record { base = f.base; signs = with_one_sign s f.signs }) fs
        | true ↦ with_placed_family n (without_family fs p) p (with_one_sign s f.signs)
      ]
    ]) none
    ∙ ap (λ l. put order p (record { base = least_base n l (s ∷ []); signs = s ∷ [] }) l) (sym (without_none fs p sorted none))

pub sign_joins : (n : ℕ) (fs : Families) (p : List ℕ) (s : ℕ) (f : Family) → family_at fs p ≡ Some f → is_used fs (f.base + s) ≡ false
    → with_new_sign n fs p s ≡ put order p (record { base = f.base; signs = with_one_sign s f.signs }) fs
unfolding with_new_sign
sign_joins n fs p s f at free =
    ap (λ o. elim o as (λ _. Families) [
      | None ↦ with_placed_family n fs p (s ∷ [])
      | Some f ↦ elim (is_used fs (f.base + s)) as (λ _. Families) [
        | false ↦ put order p (record { base = f.base; signs = with_one_sign s f.signs }) fs
        | true ↦ with_placed_family n (without_family fs p) p (with_one_sign s f.signs)
      ]
    ]) at
    ∙ ap (λ b. elim b as (λ _. Families) [
      | false ↦ put order p (record { base = f.base; signs = with_one_sign s f.signs }) fs
      | true ↦ with_placed_family n (without_family fs p) p (with_one_sign s f.signs)
    ]) free

pub sign_moves : (n : ℕ) (fs : Families) (p : List ℕ) (s : ℕ) (f : Family) → family_at fs p ≡ Some f → is_used fs (f.base + s) ≡ true
    → with_new_sign n fs p s ≡ with_placed_family n (without_family fs p) p (with_one_sign s f.signs)
unfolding with_new_sign
sign_moves n fs p s f at used =
    ap (λ o. elim o as (λ _. Families) [
      | None ↦ with_placed_family n fs p (s ∷ [])
      | Some f ↦ elim (is_used fs (f.base + s)) as (λ _. Families) [
        | false ↦ put order p (record { base = f.base; signs = with_one_sign s f.signs }) fs
        | true ↦ with_placed_family n (without_family fs p) p (with_one_sign s f.signs)
      ]
    ]) at
    ∙ ap (λ b. elim b as (λ _. Families) [
      | false ↦ put order p (record { base = f.base; signs = with_one_sign s f.signs }) fs
      | true ↦ with_placed_family n (without_family fs p) p (with_one_sign s f.signs)
    ]) used

module _ {V : Type 0} (n : ℕ) (r : Row V) (t : Trie V) (trie : IsTrie n r t) (p : List ℕ) (parent : ℕ) (parent_is : cell_of t.families p ≡ Some parent)
    (s : ℕ) (low : 1 ≤ s) (high : s ≤ n) (lacks : cell_of t.families (p ++ s ∷ []) ≡ None) where
  -- the family lacks the sign
  lacks_sign : (f : Family) → family_at t.families p ≡ Some f → list_any (nat_eq s) f.signs ≡ false
  lacks_sign f at = elim (cases_Bool (list_any (nat_eq s) f.signs)) [
    | inl has ↦ absurd (let there = parts_cell t.families p s f at has in let x = sym lacks ∙ there in cc)
    | inr e ↦ e
  ]

  -- the string has no value
  no_value : find order (p ++ s ∷ []) t.values ≡ None
  no_value = trie.has (p ++ s ∷ []) ∙ ap (value_in r) lacks

  pub join_free : (f : Family) → family_at t.families p ≡ Some f → sign_at r (f.base + s) ≡ 0 → is_used t.families (f.base + s) ≡ false
  join_free f at free = elim (cases_Bool (is_used t.families (f.base + s))) [
    | inl e ↦ absurd (used_taken n r t.families trie.sorted trie.layout (f.base + s) e free)
    | inr e ↦ e
  ]

  -- a sign joins in place
  pub trie_joins : (f : Family) → family_at t.families p ≡ Some f → sign_at r (f.base + s) ≡ 0 → (new : Row V) (v : V) → Takes r new (f.base + s) s v 0 → IsTrie n new (with_sign_below n t p s v)
  trie_joins f at free new v takes =
      subst (λ fs. IsTrie n new (record { families = fs; values = put order (p ++ s ∷ []) v t.values }))
      (sym (sign_joins n t.families p s f at (join_free f at free)))
      (trie_joined n r new t trie p parent parent_is f at s low high v (lacks_sign f at) free takes)

  module _ (was : ℕ) (slots : List (Slot V)) (own : Owned n r t p was slots) where
    new_slot : slot_of slots s ≡ None
    new_slot = elim (slot_or_none slots s) [
      | inl h ↦ absurd (let there = own.value s h.0 h.1 in let x = sym no_value ∙ there in cc)
      | inr none ↦ none
    ]

    pub can_settle : (slot : Slot V) → slot.sign ≡ s → slot.child ≡ 0 → (0 < was → sign_at r (was + s) ≢ 0) → length r.bases ≡ length r.signs
        → ((i : ℕ) → sign_at r i ≢ 0 → i + (n + 2) ≤ length r.signs) → CanPlace n r was slots slot parent
    can_settle slot is no_child no_join even room =
        let cell = cell_parts t.families p parent parent_is in
        let stands = sign_stands n r (family_at t.families) trie.layout cell.front cell.family cell.last cell.at cell.has in
        let front_other : cell.front ≢ p = λ e. not_longer cell.front cell.last (sym cell.whole ∙ sym e) in
        record {
          distinct = own.distinct;
          stand = λ x k e.
              let h = own.stand x k e in
              (h.0, h.1, (λ z. let is = h.2 in let up = h.0 in omega arith), child_within x k e);
          new = ap (slot_of slots) is ∙ new_slot;
          sign = (omega arith, omega arith);
          child = no_child;
          parent_taken = cell_taken n r t trie p parent parent_is;
          parent_other = λ x e. elim (slot_or_none slots x) [
            | inr none ↦ none
            | inl h ↦ absurd (
                let own_sign = (own.stand x h.0 h.1).2 in
                let same : x ≡ cell.last = sym own_sign ∙ ap (sign_at r) (sym e ∙ cell.is) ∙ stands.2 in
                own.other_base cell.front cell.family front_other cell.at (own.positive x h.0 h.1) (let w = cell.is in omega arith))
          ];
          room = λ i up. let h = room i up in omega arith;
          rooted = rooted;
          stands = λ x k e. (own.stand x k e).2;
          owns = owns;
          sign_taken = λ up z. no_join up (ap (λ x. sign_at r (was + x)) (sym is) ∙ z);
          based = λ i up. let o = trie.layout.owned i up in (o.1.base, trie.layout.flag o.0 o.1 o.2, o.3);
        }
      where
        base_within : (q : List ℕ) (g : Family) → family_at t.families q ≡ Some g → g.base < length r.signs
        base_within q g at = elim (cases_lt g.base (length r.bases)) [
          | inl lt ↦ omega (arith, even)
          | inr le ↦ absurd (both_ways (base_at r g.base) (get_or_past r.bases g.base false le) (trie.layout.flag q g at))
        ]

        child_within : (x : ℕ) (k : Slot V) → slot_of slots x ≡ Some k → k.child < length r.signs
        child_within x k e = elim (cases_eq k.child 0) [
          | inl z ↦ let h = room parent (cell_taken n r t trie p parent parent_is) in omega arith
          | inr up ↦ let above = own.above x k e (omega arith) in let within = base_within (p ++ x ∷ []) above.0 above.1 in let same = above.2 in omega arith
        ]

        owns : (x : ℕ) → 0 < was → 0 < x → sign_at r (was + x) ≡ x → (k : Slot V) × (slot_of slots x ≡ Some k)
        owns x up positive here =
            let o = trie.layout.owned (was + x) (λ z. omega arith) in
            let base : o.1.base ≡ was = let at = o.3 in omega arith in
            elim (equal_or_not o.0 p) [
              | inl same ↦ own.has o.1 x (ap (family_at t.families) (sym same.0) ∙ o.2) positive (ap (λ b. sign_at r (b + x)) base ∙ here)
              | inr other ↦ absurd (own.other_base o.0 o.1 other.0 o.2 up base)
            ]

        rooted : (b : ℕ) → base_at r b ≡ true → b ≢ was → 0 < b → (y : ℕ) × (0 < y) × (sign_at r (b + y) ≢ 0) × (IsOutsideFamily was slots (b + y))
        rooted b e other up =
            let o = trie.layout.flagged b e in
            let not_p : o.0 ≢ p = λ same. other (sym o.3 ∙ (own.own_base o.1 (ap (family_at t.families) (sym same) ∙ o.2)).0) in
            let y = first_sign o.1 o.1.signs refl (trie.layout.filled o.0 o.1 o.2) in
            let stands = sign_stands n r (family_at t.families) trie.layout o.0 o.1 y.0 o.2 y.1 in
            let here : sign_at r (b + y.0) ≡ y.0 = ap (λ z. sign_at r (z + y.0)) (sym o.3) ∙ stands.2 in (
              y.0,
              stands.0,
              (λ z. let up = stands.0 in omega arith),
              (λ x d. elim (slot_or_none slots x) [
                | inr none ↦ none
                | inl h ↦ absurd (
                    let own_sign = (own.stand x h.0 h.1).2 in
                    let same : x ≡ y.0 = sym own_sign ∙ ap (sign_at r) (sym d) ∙ here in
                    own.other_base o.0 o.1 not_p o.2 (own.positive x h.0 h.1) (let w = o.3 in omega arith))
              ]),
            )

    -- the family, or none, is settled with the sign
    pub trie_settles : (new : Row V) (base : ℕ) (slot : Slot V) → slot.sign ≡ s → CanPlace n r was slots slot parent → MovesFamily n r new was base slots slot parent
        → with_new_sign n t.families p s
        ≡ put order p (record { base = least_base n (without_family t.families p) (with_one_sign s (slot_signs slots)); signs = with_one_sign s (slot_signs slots) })
        (without_family t.families p)
        → IsTrie n new (with_sign_below n t p s slot.value)
    trie_settles new base slot is can moved step =
        let whole = trie_moved n r new t trie p parent parent_is was base slots slot own can moved in
        let least = base_is n r new t trie p parent parent_is was base slots slot own can moved in
        let families : put order p (record { base = base; signs = with_one_sign slot.sign (slot_signs slots) }) (without_family t.families p) ≡ with_new_sign n t.families p s =
        (λ i. put order p (record { base = least i; signs = with_one_sign slot.sign (slot_signs slots) }) (without_family t.families p))
        ∙ (λ i. put order p (record { base = least_base n (without_family t.families p) (with_one_sign (is i) (slot_signs slots)); signs = with_one_sign (is i) (slot_signs slots) })
        (without_family t.families p))
        ∙ sym step in
        subst (IsTrie n new) (λ i. record { families = families i; values = put order (p ++ is i ∷ []) slot.value t.values }) whole

-- the base of a family that was moved is in the row
pub moved_near : {V : Type 0} (n : ℕ) (r new : Row V) (was base : ℕ) (slots : List (Slot V)) (slot : Slot V) (parent : ℕ) → MovesFamily n r new was base slots slot parent
    → base ≤ length r.signs + 1
moved_near {V} n r new was base slots slot parent moved =
    let size : length moved.dropped.signs ≡ length moved.gave.signs = elim moved.drops [ inl h ↦ ap (λ (k : Row V). length k.signs) h.1 | inr h ↦ h.1.size ] in
    omega (arith, moved.near, moved.is_top.within, moved.gives.others.size)

-- a choice made by a test
cond_none : (b : Bool) (k : ℕ) (o : Option Family) → option_map (λ f. f.base) o ≡ cond b None (Some k) → b ≡ true → o ≡ None
cond_none true k None e is = refl
cond_none true k (Some f) e is = cc
cond_none false k o e is = cc

module _ {V : Type 0} (n : ℕ) (old r : Row V) (t : Trie V) (before : IsTrie n old t) (more : Extends old r) (p : List ℕ) (parent : ℕ) (parent_is : cell_of t.families p ≡ Some parent)
    (s : ℕ) (low : 1 ≤ s) (high : s ≤ n) (lacks : cell_of t.families (p ++ s ∷ []) ≡ None) (base : ℕ) (base_is_child : base ≡ child_at r parent) where
  pub grown : IsTrie n r t
  grown = trie_extended n old r t before more

  told_base : base_of t.families p ≡ cond (nat_eq base 0) None (Some base)
  told_base = child_is n r t grown p parent parent_is ∙ (λ i. cond (nat_eq (sym base_is_child i) 0) None (Some (sym base_is_child i)))

  pub no_family : base ≡ 0 → family_at t.families p ≡ None
  no_family z = cond_none (nat_eq base 0) base (family_at t.families p) told_base (eq-eqb base 0 z)

  pub some_family : 0 < base → (f : Family) × (family_at t.families p ≡ Some f) × (f.base ≡ base)
  some_family up = base_parts t.families p base (told_base ∙ ap (λ b. cond b None (Some base)) (ne_eqb base 0 (λ z. omega arith)))

  pub parent_taken : sign_at r parent ≢ 0
  parent_taken = cell_taken n r t grown p parent parent_is

  pub child_within : length r.bases ≡ length r.signs → base < length r.signs
  child_within even = elim (cases_eq base 0) [
    | inl z ↦ let h = taken_within r parent parent_taken in omega arith
    | inr up ↦
        let f = some_family (omega arith) in
        elim (cases_lt base (length r.bases)) [
          | inl lt ↦ omega arith
          | inr le ↦ absurd (both_ways (base_at r base) (get_or_past r.bases base false le) (ap (base_at r) (sym f.2) ∙ grown.layout.flag p f.0 f.1))
        ]
  ]

  -- the sign joins
  pub joins_trie : 0 < base → sign_at r (base + s) ≡ 0 → (new : Row V) (v : V) → Takes r new (base + s) s v 0 → IsTrie n new (with_sign_below n t p s v)
  joins_trie up free new v takes =
      let f = some_family up in
      trie_joins n r t grown p parent parent_is s low high lacks f.0 f.1 (ap (λ b. sign_at r (b + s)) f.2 ∙ free) new v (subst (λ b. Takes r new (b + s) s v 0) (sym f.2) takes)

  pub joins_cell : 0 < base → sign_at r (base + s) ≡ 0 → cell_of (with_new_sign n t.families p s) (p ++ s ∷ []) ≡ Some (base + s)
  joins_cell up free =
      let f = some_family up in
      let unused = join_free n r t grown p parent parent_is s low high lacks f.0 f.1 (ap (λ b. sign_at r (b + s)) f.2 ∙ free) in
      ap (λ fs. cell_of fs (p ++ s ∷ [])) (sign_joins n t.families p s f.0 f.1 unused)
      ∙ parts_cell (put order p (joined f.0 s) t.families) p s (joined f.0 s) (find_put_same p (joined f.0 s) t.families)
      (any_one_more s s f.0.signs ∙ or_left (nat_eq s s) (list_any (nat_eq s) f.0.signs) (eq-eqb s s refl))
      ∙ ap (λ b. Some (b + s)) f.2

  -- and its cell is in the row
  pub joins_free : 0 < base → sign_at r (base + s) ≡ 0 → ((i : ℕ) → sign_at old i ≢ 0 → i + (n + 2) ≤ length r.signs) → IsFree r (base + s)
  joins_free up free room =
      let f = some_family up in
      let y = first_sign f.0 f.0.signs refl (grown.layout.filled p f.0 f.1) in
      let stands = sign_stands n r (family_at t.families) grown.layout p f.0 y.0 f.1 y.1 in
      let long = room (f.0.base + y.0) (λ z. let here = sym (more.signs (f.0.base + y.0)) ∙ stands.2 in let positive = stands.0 in let e = sym here ∙ z in omega arith) in
      get_or_default r.signs (base + s) 1 0 (let e = f.2 in omega arith) ∙ free

  module _ (slots : List (Slot V)) (none : base ≡ 0 → slots ≡ []) (some : 0 < base → AreSlotsOf n r base slots) (no_join : 0 < base → sign_at r (base + s) ≢ 0) where
    pub owned : Owned n r t p base slots
    owned = elim (cases_eq base 0) [
      | inl z ↦ subst (λ b. Owned n r t p b slots) (sym z) (subst (Owned n r t p 0) (sym (none z)) (owned_none n r t grown p (no_family z)))
      | inr up ↦
          let f = some_family (omega arith) in
          subst (λ b. Owned n r t p b slots) f.2
          (owned_some n r t grown p f.0 f.1 (let e = f.2 in omega arith) slots (subst (λ b. AreSlotsOf n r b slots) (sym f.2) (some (omega arith))))
    ]

    pub settles_can : (slot : Slot V) → slot.sign ≡ s → slot.child ≡ 0 → length r.bases ≡ length r.signs → ((i : ℕ) → sign_at old i ≢ 0 → i + (n + 2) ≤ length r.signs)
        → CanPlace n r base slots slot parent
    settles_can slot is no_child even room =
        can_settle n r t grown p parent parent_is s low high lacks base slots owned slot is no_child no_join even (λ i up. room i (λ z. up (more.signs i ∙ z)))

    -- the step of the placement, where the sign does not join
    pub settles_step : with_new_sign n t.families p s
        ≡ put order p (record { base = least_base n (without_family t.families p) (with_one_sign s (slot_signs slots)); signs = with_one_sign s (slot_signs slots) })
        (without_family t.families p)
    settles_step = elim (cases_eq base 0) [
      | inl z ↦
          sign_new n t.families p s grown.sorted (no_family z)
          ∙ ap (λ l. put order p (record { base = least_base n (without_family t.families p) (with_one_sign s (slot_signs l)); signs = with_one_sign s (slot_signs l) })
          (without_family t.families p))
          (sym (none z))
      | inr up ↦
          let f = some_family (omega arith) in
          let used = taken_used n r t.families grown.sorted grown.layout (f.0.base + s) (λ z. no_join (omega arith) (ap (λ b. sign_at r (b + s)) (sym f.2) ∙ z)) in
          let signs : f.0.signs ≡ slot_signs slots = grown.layout.members p f.0 f.1 ∙ ap (signs_at_base n r) f.2 ∙ sym (some (omega arith)).signs in
          sign_moves n t.families p s f.0 f.1 used
          ∙ ap (λ xs. put order p (record { base = least_base n (without_family t.families p) (with_one_sign s xs); signs = with_one_sign s xs })
          (without_family t.families p)) signs
    ]

    module _ (new : Row V) (at : ℕ) (slot : Slot V) (is : slot.sign ≡ s) (can : CanPlace n r base slots slot parent) (moved : MovesFamily n r new base at slots slot parent) where
      pub settles_trie : IsTrie n new (with_sign_below n t p s slot.value)
      settles_trie = trie_settles n r t grown p parent parent_is s low high lacks base slots owned new at slot is can moved settles_step

      pub settles_cell : cell_of (with_new_sign n t.families p s) (p ++ s ∷ []) ≡ Some (at + s)
      settles_cell =
          let least = base_is n r new t grown p parent parent_is base at slots slot owned can moved in
          let same : least_base n (without_family t.families p) (with_one_sign s (slot_signs slots)) ≡ at =
          ap (λ x. least_base n (without_family t.families p) (with_one_sign x (slot_signs slots))) (sym is) ∙ sym least in
          ap (λ fs. cell_of fs (p ++ s ∷ [])) (settles_step ∙ ap (λ b. put order p (record { base = b; signs = with_one_sign s (slot_signs slots) }) (without_family t.families p)) same)
          ∙ parts_cell (put order p (record { base = at; signs = with_one_sign s (slot_signs slots) }) (without_family t.families p)) p s
          (record { base = at; signs = with_one_sign s (slot_signs slots) })
          (find_put_same p (record { base = at; signs = with_one_sign s (slot_signs slots) }) (without_family t.families p))
          (any_one_more s s (slot_signs slots) ∙ or_left (nat_eq s s) (list_any (nat_eq s) (slot_signs slots)) (eq-eqb s s refl))
