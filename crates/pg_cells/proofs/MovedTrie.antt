-- The trie after a family, or none, was settled with one sign more.
use Rattle.std.proofs.Common.{◌≡◌, ◌≢◌, ℕ, ◌+◌, ◌<◌, ◌≤◌, max, inl, inr, Bool, true, false, not, nat_eq, List, [], ◌∷◌, ◌++◌, length, Some, slice_get, refl, sym, ◌∙◌, ap, arith}
use Rattle.std.proofs.lemmas.Bool.{cases_eq, eq-eqb, ne_eqb, eqb-true, both_ways, false≢true, or_left, or_right, or_cases, and_parts, not-true}
use Rattle.std.proofs.lemmas.List.{length-map}
use Rattle.std.specs.List.{list_any, list_all}
use Rattle.std.specs.FinMap.{put}
use Rattle.pg_types.specs.Placement.{Family, Families, family_at}
use Rattle.pg_types.specs.Inside.PlacementSteps.{least_base, with_one_sign, without_family}
use Rattle.pg_types.specs.Inside.Placing.{cell_of}
use Rattle.pg_cells.specs.declared.store.fit.Slot.{Slot}
use Rattle.pg_cells.specs.Inside.store.CellRows.{Row, sign_at, child_at, base_at}
use Rattle.pg_cells.specs.Inside.store.Fit.{slot_signs, slot_of}
use Rattle.pg_cells.specs.Inside.families.Moves.{IsOutsideFamily, CanPlace, MovesFamily}
use Rattle.pg_cells.specs.Inside.store.Store.{taken_in}
use Rattle.pg_cells.specs.Inside.linked.ValuedFamilies.{Trie}
use Rattle.pg_cells.specs.Inside.families.Layouts.{IsTrie, signs_at_base}
use Rattle.pg_cells.proofs.StringMaps.{order, find_put_same, find_put_other, find_without_same, find_without_other, sorted_put, sorted_without, equal_or_not}
use Rattle.pg_types.proofs.LeastBase.{lowest_positive}
use Rattle.pg_cells.proofs.PlacementLaws.{size_of, taken_put, taken_without}
use Rattle.pg_cells.proofs.LayoutLaws.{sign_stands}
use Rattle.pg_cells.proofs.OneSign.{filter_more, length_one_more, any_one_more}
use Rattle.pg_cells.proofs.Slots.{slot_or_none, slot_has, has_slot, outside_or, outside_here}
use Rattle.pg_cells.proofs.PlacedRoom.{new_free, slots_free, parent_outside, parent_not_new}
use Rattle.pg_cells.proofs.PlacedFamily.{Settles, settles}
use Rattle.pg_cells.proofs.PlacedValues.{HasValues, values_settle}
use Rattle.pg_cells.proofs.StringCells.{cell_parts}
use Rattle.pg_cells.proofs.Joined.{not_nil}
use Rattle.pg_cells.proofs.Owned.{Owned}
use Rattle.pg_cells.proofs.Cleared.{others_outside, sign_outside, child_outside, value_outside, taken_owner, other_flag, flag_other, least_same}

module _ {V : Type 0} (n : ℕ) (r new : Row V) (t : Trie V) (trie : IsTrie n r t) (p : List ℕ) (parent : ℕ) (parent_is : cell_of t.families p ≡ Some parent)
    (was base : ℕ) (slots : List (Slot V)) (slot : Slot V) (own : Owned n r t p was slots) (can : CanPlace n r was slots slot parent) (moved : MovesFamily n r new was base slots slot parent) where
  -- the family as it is now, and all families
  abbrev pub family : Family
  family = record { base = base; signs = with_one_sign slot.sign (slot_signs slots) }

  abbrev pub families : Families
  families = put order p family (without_family t.families p)

  fresh : sign_at moved.dropped (base + slot.sign) ≡ 0
  fresh = new_free n r moved.gave moved.dropped was slots slot parent can moved.gives moved.drops moved.top moved.is_top (max moved.top 1) refl base
      (let h = moved.near in omega arith) moved.least.meets

  free_slot : (x : ℕ) (k : Slot V) → slot_of slots x ≡ Some k → sign_at moved.dropped (base + x) ≡ 0
  free_slot = slots_free n r moved.gave moved.dropped was slots slot parent can moved.gives moved.drops moved.top moved.is_top (max moved.top 1) refl base
      (let h = moved.near in omega arith) moved.least.meets

  parent_out : IsOutsideFamily base slots parent
  parent_out = parent_outside n r moved.gave moved.dropped was slots slot parent can moved.gives moved.drops moved.top moved.is_top (max moved.top 1) refl base
      (let h = moved.near in omega arith) moved.least.meets moved.settled moved.puts

  parent_new : parent ≢ base + slot.sign
  parent_new = parent_not_new n r moved.gave moved.dropped was slots slot parent can moved.gives moved.drops moved.top moved.is_top (max moved.top 1) refl base
      (let h = moved.near in omega arith) moved.least.meets moved.settled moved.puts

  -- the base is no other family's
  base_free : base_at moved.dropped base ≡ false
  base_free = not-true (base_at moved.dropped base) (and_parts (not (base_at moved.dropped base))
      (list_all (λ y. nat_eq (sign_at moved.dropped (base + y)) 0) (slot.sign ∷ slot_signs slots)) moved.least.meets).0

  -- a cell of the new row: that of a slot, that of the new sign, or as before
  link_sign : (i : ℕ) → sign_at new i ≡ sign_at moved.took i
  link_sign i = elim (cases_eq i parent) [
    | inl e ↦ ap (sign_at new) e ∙ moved.links.sign_is ∙ ap (sign_at moved.flagged) (sym e)
    | inr other ↦ moved.links.elsewhere.signs i other
  ] ∙ moved.flags.signs i

  link_value : (i : ℕ) → slice_get new.values i ≡ slice_get moved.took.values i
  link_value i = elim (cases_eq i parent) [
    | inl e ↦ ap (slice_get new.values) e ∙ moved.links.value_is ∙ ap (slice_get moved.flagged.values) (sym e)
    | inr other ↦ moved.links.elsewhere.values i other
  ] ∙ moved.flags.values i

  link_child : (i : ℕ) → i ≢ parent → child_at new i ≡ child_at moved.took i
  link_child i other = moved.links.elsewhere.children i other ∙ moved.flags.children i

  not_s : (x : ℕ) (k : Slot V) → slot_of slots x ≡ Some k → base + x ≢ base + slot.sign
  not_s x k e z =
      let same : x ≡ slot.sign = omega arith in
      let there = ap (slot_of slots) (sym same) ∙ e in
      let none = can.new in let w = sym none ∙ there in cc

  slot_sign_now : (x : ℕ) (k : Slot V) → slot_of slots x ≡ Some k → sign_at new (base + x) ≡ x
  slot_sign_now x k e = link_sign (base + x) ∙ moved.takes.elsewhere.signs (base + x) (not_s x k e) ∙ (moved.puts.at x k e).0

  slot_child_now : (x : ℕ) (k : Slot V) → slot_of slots x ≡ Some k → child_at new (base + x) ≡ k.child
  slot_child_now x k e =
      link_child (base + x) (λ z. let none = parent_out x (sym z) in let w = sym none ∙ e in cc)
      ∙ moved.takes.elsewhere.children (base + x) (not_s x k e) ∙ (moved.puts.at x k e).1

  slot_value_now : (x : ℕ) (k : Slot V) → slot_of slots x ≡ Some k → slice_get new.values (base + x) ≡ Some k.value
  slot_value_now x k e = link_value (base + x) ∙ moved.takes.elsewhere.values (base + x) (not_s x k e) ∙ (moved.puts.at x k e).2

  new_sign_now : sign_at new (base + slot.sign) ≡ slot.sign
  new_sign_now = link_sign (base + slot.sign) ∙ moved.takes.sign_is

  new_child_now : child_at new (base + slot.sign) ≡ 0
  new_child_now = link_child (base + slot.sign) (λ z. parent_new (sym z)) ∙ moved.takes.child_is ∙ can.child

  new_value_now : slice_get new.values (base + slot.sign) ≡ Some slot.value
  new_value_now = link_value (base + slot.sign) ∙ moved.takes.value_is

  out_sign : (i : ℕ) → IsOutsideFamily base slots i → i ≢ base + slot.sign → sign_at new i ≡ sign_at moved.dropped i
  out_sign i out other = link_sign i ∙ moved.takes.elsewhere.signs i other ∙ moved.puts.others.signs i out

  out_child : (i : ℕ) → IsOutsideFamily base slots i → i ≢ base + slot.sign → i ≢ parent → child_at new i ≡ child_at moved.dropped i
  out_child i out other not_parent = link_child i not_parent ∙ moved.takes.elsewhere.children i other ∙ moved.puts.others.children i out

  out_value : (i : ℕ) → IsOutsideFamily base slots i → i ≢ base + slot.sign → slice_get new.values i ≡ slice_get moved.dropped.values i
  out_value i out other = link_value i ∙ moved.takes.elsewhere.values i other ∙ moved.puts.others.values i out

  base_now : (b : ℕ) → b ≢ base → base_at new b ≡ base_at moved.dropped b
  base_now b other = moved.links.elsewhere.bases b ∙ moved.flags.bases b other ∙ moved.takes.elsewhere.bases b ∙ moved.puts.others.bases b

  -- a cell that is taken after the giving up is none of the new ones
  old_outside : (i : ℕ) → sign_at moved.dropped i ≢ 0 → IsOutsideFamily base slots i × (i ≢ base + slot.sign)
  old_outside i up = (
    elim (outside_or base slots i) [
      | inl h ↦ absurd (up (ap (sign_at moved.dropped) h.2 ∙ free_slot h.0 h.1 h.3))
      | inr out ↦ out
    ],
    (λ e. up (ap (sign_at moved.dropped) e ∙ fresh)),
  )

  -- no other family stands at the base
  no_other : (q : List ℕ) (g : Family) → q ≢ p → family_at t.families q ≡ Some g → g.base ≢ base
  no_other q g other at e =
      false≢true (sym base_free ∙ ap (base_at moved.dropped) (sym e) ∙ other_flag n r moved.gave moved.dropped t trie p was slots own moved.gives moved.drops q g other at)

  -- where the old row has the sign y of another family, the given-up row has it
  kept : (q : List ℕ) (g : Family) (y : ℕ) → q ≢ p → family_at t.families q ≡ Some g → sign_at r (g.base + y) ≡ y → IsOutsideFamily was slots (g.base + y) × (sign_at moved.dropped (g.base + y) ≡ y)
  kept q g y other at is =
      let out = others_outside n r moved.gave moved.dropped t trie p was slots own moved.gives moved.drops q g y other at is in
      (out, sign_outside n r moved.gave moved.dropped t trie p was slots own moved.gives moved.drops (g.base + y) out ∙ is)

  -- and the other way round
  came : (q : List ℕ) (g : Family) (y : ℕ) → q ≢ p → family_at t.families q ≡ Some g → 0 < y → sign_at moved.dropped (g.base + y) ≡ y → sign_at r (g.base + y) ≡ y
  came q g y other at up is =
      let o = taken_owner n r moved.gave moved.dropped t trie p was slots own moved.gives moved.drops (g.base + y) (λ z. omega arith) in
      sym (sign_outside n r moved.gave moved.dropped t trie p was slots own moved.gives moved.drops (g.base + y) o.0) ∙ is

  now_test : (q : List ℕ) (g : Family) (y : ℕ) → q ≢ p → family_at t.families q ≡ Some g → 0 < y → nat_eq (sign_at new (g.base + y)) y ≡ nat_eq (sign_at r (g.base + y)) y
  now_test q g y other at up = elim (cases_eq (sign_at r (g.base + y)) y) [
    | inl is ↦
        let k = kept q g y other at is in
        let out = old_outside (g.base + y) (λ z. let e = k.1 in omega arith) in
        eq-eqb (sign_at new (g.base + y)) y (out_sign (g.base + y) out.0 out.1 ∙ k.1) ∙ sym (eq-eqb (sign_at r (g.base + y)) y is)
    | inr off ↦ ne_eqb (sign_at new (g.base + y)) y (not_now off) ∙ sym (ne_eqb (sign_at r (g.base + y)) y off)
  ]
    where
      not_now : sign_at r (g.base + y) ≢ y → sign_at new (g.base + y) ≢ y
      not_now off z = elim (outside_or base slots (g.base + y)) [
        | inl h ↦
            let sign = ap (sign_at new) h.2 ∙ slot_sign_now h.0 h.1 h.3 in
            no_other q g other at (let w = h.2 in omega arith)
        | inr out ↦ elim (cases_eq (g.base + y) (base + slot.sign)) [
          | inl e ↦ let sign = ap (sign_at new) e ∙ new_sign_now in no_other q g other at (omega arith)
          | inr old ↦ off (came q g y other at up (sym (out_sign (g.base + y) out old) ∙ z))
        ]
      ]

  positive_base : 0 < base
  positive_base = let from = moved.least.from in let low = lowest_positive n (length slots + 1) moved.top in omega arith

  here : family_at families p ≡ Some family
  here = find_put_same p family (without_family t.families p)

  there : (q : List ℕ) → q ≢ p → family_at families q ≡ family_at t.families q
  there q other = find_put_other q p family (without_family t.families p) other ∙ find_without_other q p t.families other

  -- the signs at the new base are the old ones with the new one
  members_now : with_one_sign slot.sign (slot_signs slots) ≡ signs_at_base n new base
  members_now =
      ap (with_one_sign slot.sign) own.signs
      ∙ sym (filter_more own.test (λ x. nat_eq (sign_at new (base + x)) x) slot.sign 1 n (omega arith) same
      (eq-eqb (sign_at new (base + slot.sign)) slot.sign new_sign_now)
      (own.none_test slot.sign can.sign.0 can.new) (let h = can.sign.0 in omega arith) (let h = can.sign.1 in omega arith))
    where
      same : (x : ℕ) → 0 < x → x ≢ slot.sign → nat_eq (sign_at new (base + x)) x ≡ own.test x
      same x up other = elim (slot_or_none slots x) [
        | inl h ↦ eq-eqb (sign_at new (base + x)) x (slot_sign_now x h.0 h.1) ∙ sym (own.some_test x h.0 h.1)
        | inr none ↦
            ne_eqb (sign_at new (base + x)) x (λ z.
            let same_sign = out_sign (base + x) (outside_here base slots x none) (λ e. other (omega arith)) in
            let is : sign_at moved.dropped (base + x) ≡ x = sym same_sign ∙ z in
            let o = taken_owner n r moved.gave moved.dropped t trie p was slots own moved.gives moved.drops (base + x) (λ w. omega arith) in
            no_other o.1.0 o.1.1 o.1.2 o.1.3 (let e = o.1.4 in omega arith))
            ∙ sym (own.none_test x up none)
      ]

  owned_now : (i : ℕ) → sign_at new i ≢ 0 → (q : List ℕ) × (g : Family) × (family_at families q ≡ Some g) × (i ≡ g.base + sign_at new i)
  owned_now i up = elim (outside_or base slots i) [
    | inl h ↦ (p, family, here, h.2 ∙ ap (λ x. base + x) (sym (ap (sign_at new) h.2 ∙ slot_sign_now h.0 h.1 h.3)))
    | inr out ↦ elim (cases_eq i (base + slot.sign)) [
      | inl e ↦ (p, family, here, e ∙ ap (λ x. base + x) (sym (ap (sign_at new) e ∙ new_sign_now)))
      | inr other ↦
          let same = out_sign i out other in
          let o = taken_owner n r moved.gave moved.dropped t trie p was slots own moved.gives moved.drops i (λ z. up (same ∙ z)) in
          (o.1.0, o.1.1, there o.1.0 o.1.2 ∙ o.1.3, o.1.4 ∙ ap (λ x. o.1.1.base + x) (sym same))
    ]
  ]

  small_now : (i : ℕ) → sign_at new i ≤ n
  small_now i = elim (outside_or base slots i) [
    | inl h ↦ let is = ap (sign_at new) h.2 ∙ slot_sign_now h.0 h.1 h.3 in let le = (own.stand h.0 h.1 h.3).1 in omega arith
    | inr out ↦ elim (cases_eq i (base + slot.sign)) [
      | inl e ↦ let is = ap (sign_at new) e ∙ new_sign_now in let le = can.sign.1 in omega arith
      | inr other ↦ elim (cases_eq (sign_at new i) 0) [
        | inl z ↦ omega arith
        | inr up ↦
            let same = out_sign i out other in
            let o = taken_owner n r moved.gave moved.dropped t trie p was slots own moved.gives moved.drops i (λ z. up (same ∙ z)) in
            let old = sign_outside n r moved.gave moved.dropped t trie p was slots own moved.gives moved.drops i o.0 in
            let le = trie.layout.small i in omega arith
      ]
    ]
  ]

  flag_now : (q : List ℕ) (g : Family) → family_at families q ≡ Some g → base_at new g.base ≡ true
  flag_now q g at = elim (equal_or_not q p) [
    | inl e ↦
        let same : Some g ≡ Some family = sym at ∙ ap (family_at families) e.0 ∙ here in
        let is : g ≡ family = cc in
        ap (λ (h : Family). base_at new h.base) is ∙ moved.links.elsewhere.bases base ∙ moved.flags.base_is
    | inr e ↦
        let old = sym (there q e.0) ∙ at in
        base_now g.base (no_other q g e.0 old) ∙ other_flag n r moved.gave moved.dropped t trie p was slots own moved.gives moved.drops q g e.0 old
  ]

  flagged_now : (b : ℕ) → base_at new b ≡ true → (q : List ℕ) × (g : Family) × (family_at families q ≡ Some g) × (g.base ≡ b)
  flagged_now b e = elim (cases_eq b base) [
    | inl same ↦ (p, family, here, sym same)
    | inr other ↦
        let o = flag_other n r moved.gave moved.dropped t trie p was slots own moved.gives moved.drops b (sym (base_now b other) ∙ e) in
        (o.0, o.1, there o.0 o.2 ∙ o.3, o.4)
  ]

  step : Settles n r new (family_at t.families) (family_at families) p family
  step =
      let cell = cell_parts t.families p parent parent_is in
      let stands = sign_stands n r (family_at t.families) trie.layout cell.front cell.family cell.last cell.at cell.has in
      let parent_sign : sign_at moved.dropped parent ≡ cell.last =
      sign_outside n r moved.gave moved.dropped t trie p was slots own moved.gives moved.drops parent can.parent_other ∙ ap (sign_at r) cell.is ∙ stands.2 in
      record {
        here = here;
        there = there;
        front = cell.front;
        last = cell.last;
        whole = cell.whole;
        above = cell.family;
        above_at = cell.at;
        above_sign = ap (sign_at new) (sym cell.is) ∙ out_sign parent parent_out parent_new ∙ parent_sign;
        above_child = ap (child_at new) (sym cell.is) ∙ moved.links.child_is;
        base_up = positive_base;
        last_up = stands.0;
        members = members_now;
        filled = not_nil slot.sign (slot_signs slots);
        own_down = λ y g at.
            let below = own.below y g at in
            (slot_sign_now y below.0 below.1, slot_child_now y below.0 below.1 ∙ below.2);
        own_up = λ y up is down. elim (slot_or_none slots y) [
          | inl h ↦
              let child = slot_child_now y h.0 h.1 in
              let above = own.above y h.0 h.1 (omega arith) in (above.0, above.1, above.2 ∙ sym child)
          | inr none ↦ absurd (elim (cases_eq y slot.sign) [
            | inl e ↦ let z = ap (λ x. child_at new (base + x)) e ∙ new_child_now in omega arith
            | inr other ↦
                let old : sign_at moved.dropped (base + y) ≡ y = sym (out_sign (base + y) (outside_here base slots y none) (λ e. other (omega arith))) ∙ is in
                let o = taken_owner n r moved.gave moved.dropped t trie p was slots own moved.gives moved.drops (base + y) (λ w. omega arith) in
                no_other o.1.0 o.1.1 o.1.2 o.1.3 (let e = o.1.4 in omega arith)
          ])
        ];
        test = now_test;
        child = λ q g y other at up is no_child.
            let k = kept q g y other at is in
            let out = old_outside (g.base + y) (λ z. let e = k.1 in omega arith) in
            let not_parent : g.base + y ≢ parent = λ e.
            let sign : y ≡ cell.last = sym is ∙ ap (sign_at r) (e ∙ cell.is) ∙ stands.2 in
            let bases : g.base ≡ cell.family.base = let w = cell.is in omega arith in
            let fronts = trie.layout.apart q cell.front g cell.family at cell.at bases in
            no_child ((λ i. fronts i ++ sign i ∷ []) ∙ sym cell.whole) in
            out_child (g.base + y) out.0 out.1 not_parent ∙ child_outside n r moved.gave moved.dropped t trie p was slots own moved.gives moved.drops (g.base + y) k.0;
        base = no_other;
        owned = owned_now;
        small = small_now;
        flag = flag_now;
        flagged = flagged_now;
      }

  has_new : list_any (nat_eq slot.sign) (with_one_sign slot.sign (slot_signs slots)) ≡ true
  has_new = any_one_more slot.sign slot.sign (slot_signs slots) ∙ or_left (nat_eq slot.sign slot.sign) (list_any (nat_eq slot.sign) (slot_signs slots)) (eq-eqb slot.sign slot.sign refl)

  told : HasValues r new t families p slot.sign slot.value family
  told = record {
    here = here;
    there = there;
    has = has_new;
    value = new_value_now;
    own = λ y other has. elim (or_cases (nat_eq y slot.sign) (list_any (nat_eq y) (slot_signs slots)) (sym (any_one_more slot.sign y (slot_signs slots)) ∙ has)) [
      | inl e ↦ absurd (other (eqb-true y slot.sign e))
      | inr e ↦ let found = has_slot slots y e in own.value y found.0 found.1 ∙ sym (slot_value_now y found.0 found.1)
    ];
    own_none = λ y other none. elim (slot_or_none slots y) [
      | inl h ↦ absurd (both_ways (list_any (nat_eq y) (with_one_sign slot.sign (slot_signs slots))) none
          (any_one_more slot.sign y (slot_signs slots) ∙ or_right (nat_eq y slot.sign) (list_any (nat_eq y) (slot_signs slots)) (slot_has slots y h.0 h.1)))
      | inr no_slot ↦ own.no_value y no_slot
    ];
    elsewhere = λ q g y other at up is.
        let k = kept q g y other at is in
        let out = old_outside (g.base + y) (λ z. let e = k.1 in omega arith) in
        out_value (g.base + y) out.0 out.1 ∙ value_outside n r moved.gave moved.dropped t trie p was slots own moved.gives moved.drops (g.base + y) k.0;
  }

  dropped_count : taken_in moved.dropped ≡ taken_in moved.gave
  dropped_count = elim moved.drops [ inl h ↦ ap taken_in h.1 | inr h ↦ h.1.count ]

  lacks : list_any (nat_eq slot.sign) (slot_signs slots) ≡ false
  lacks = by (list_any (nat_eq slot.sign) (slot_signs slots)) refl
    where
      by : (b : Bool) → list_any (nat_eq slot.sign) (slot_signs slots) ≡ b → list_any (nat_eq slot.sign) (slot_signs slots) ≡ false
      by true e = absurd (let found = has_slot slots slot.sign e in let none = can.new in let w = sym none ∙ found.1 in cc)
      by false e = e

  pub trie_moved : IsTrie n new (record { families = put order p family (without_family t.families p); values = put order (p ++ slot.sign ∷ []) slot.value t.values })
  trie_moved = record {
    sorted = sorted_put p family (without_family t.families p) (sorted_without p t.families trie.sorted);
    layout = settles n r new (family_at t.families) (family_at families) p family trie.layout step;
    count = omega (
      arith,
      moved.gives.count,
      dropped_count,
      moved.puts.count,
      moved.takes.count,
      moved.flags.count,
      moved.links.count,
      trie.count,
      own.size,
      taken_put p family (without_family t.families p) (sorted_without p t.families trie.sorted),
      taken_without p t.families trie.sorted,
      ap size_of (find_without_same p t.families),
      length_one_more slot.sign (slot_signs slots) lacks,
      length-map slots (λ (k : Slot V). k.sign),
    );
    ordered = sorted_put (p ++ slot.sign ∷ []) slot.value t.values trie.ordered;
    has = values_settle n r new t trie families p slot.sign slot.value family told;
  }

  -- the base is the least one of the placement
  pub base_is : base ≡ least_base n (without_family t.families p) (with_one_sign slot.sign (slot_signs slots))
  base_is = least_same n r moved.gave moved.dropped t trie p was slots own moved.gives moved.drops slot.sign base moved.top can.new moved.is_top moved.least moved.near
