-- There is room to place_family a family: past the last cell, and where the search finds its base.
use Rattle.std.proofs.Common.{◌≡◌, ◌≢◌, ℕ, ◌+◌, ◌<◌, ◌≤◌, max, inl, inr, Bool, true, false, not, nat_eq, List, [], ◌∷◌, length, Some, zero, suc, get_or, refl, sym, ◌∙◌, ap, arith}
use Rattle.std.proofs.lemmas.Bool.{cases_Bool, cases_eq, eq-eqb, eqb-true, false≢true, and_parts, and_from, or_cases, or_left, or_right}
use Rattle.std.proofs.lemmas.List.{get_or_default, length-map}
use Rattle.std.specs.List.{list_any, list_all}
use Rattle.pg_cells.specs.declared.store.fit.Slot.{Slot}
use Rattle.pg_cells.specs.Inside.store.CellRows.{Row, sign_at, base_at, IsFree}
use Rattle.pg_cells.specs.Inside.store.Fit.{slot_signs, slot_of, fits_row}
use Rattle.pg_cells.specs.Inside.store.Store.{IsTop}
use Rattle.pg_cells.specs.Inside.store.Writes.{Takes, SetsBase}
use Rattle.pg_cells.specs.Inside.families.Moves.{GivesUp, DropsBase, PutsSlots, IsOutsideFamily, CanPlace}
use Rattle.pg_cells.proofs.Slots.{has_slot, slot_has, outside_or, outside_here}

pub all_true : (test : ℕ → Bool) (xs : List ℕ) → ((y : ℕ) → list_any (nat_eq y) xs ≡ true → test y ≡ true) → list_all test xs ≡ true
all_true test [] h = refl
all_true test (x ∷ xs) h = and_from (test x) (list_all test xs) (h x (or_left (nat_eq x x) (list_any (nat_eq x) xs) (eq-eqb x x refl)))
    (all_true test xs (λ y e. h y (or_right (nat_eq y x) (list_any (nat_eq y) xs) e)))

pub all_has : (test : ℕ → Bool) (xs : List ℕ) (y : ℕ) → list_all test xs ≡ true → list_any (nat_eq y) xs ≡ true → test y ≡ true
all_has test [] y h e = absurd (false≢true e)
all_has test (x ∷ xs) y h e =
    let parts = and_parts (test x) (list_all test xs) h in
    elim (or_cases (nat_eq y x) (list_any (nat_eq y) xs) e) [
      | inl same ↦ ap test (eqb-true y x same) ∙ parts.0
      | inr rest ↦ all_has test xs y parts.1 rest
    ]

any_at : (xs : List ℕ) (k : ℕ) → k < length xs → list_any (nat_eq (get_or xs k 0)) xs ≡ true
any_at [] k lt = absurd (omega arith)
any_at (x ∷ xs) zero lt = or_left (nat_eq x x) (list_any (nat_eq x) xs) (eq-eqb x x refl)
any_at (x ∷ xs) (suc k) lt = or_right (nat_eq (get_or xs k 0) x) (list_any (nat_eq (get_or xs k 0)) xs) (any_at xs k (omega arith))

module _ {V : Type 0} (n : ℕ) (old gave dropped : Row V) (was : ℕ) (slots : List (Slot V)) (slot : Slot V) (parent : ℕ)
    (can : CanPlace n old was slots slot parent) (gives : GivesUp old gave was slots) (drops : DropsBase gave dropped was) where
  pub dropped_sign : (i : ℕ) → sign_at dropped i ≡ sign_at gave i
  dropped_sign i = elim drops [ inl h ↦ ap (λ (r : Row V). sign_at r i) h.1 | inr h ↦ h.1.signs i ]

  pub dropped_size : length dropped.signs ≡ length old.signs
  dropped_size = elim drops [ inl h ↦ ap (λ (r : Row V). length r.signs) h.1 | inr h ↦ h.1.size ] ∙ gives.others.size

  pub outside_sign : (i : ℕ) → IsOutsideFamily was slots i → sign_at dropped i ≡ sign_at old i
  outside_sign i out = dropped_sign i ∙ gives.others.signs i out

  -- a cell that is taken now was taken
  pub was_taken : (i : ℕ) → sign_at dropped i ≢ 0 → sign_at old i ≢ 0
  was_taken i up = elim (outside_or was slots i) [
    | inl h ↦ absurd (up (dropped_sign i ∙ ap (sign_at gave) h.2 ∙ gives.free h.0 h.1 h.3))
    | inr out ↦ λ z. up (outside_sign i out ∙ z)
  ]

  module _ (top : ℕ) (is_top : IsTop dropped.signs top) (m : ℕ) (is_m : m ≡ max top 1) where
    pub room_within : m + n < length dropped.signs
    room_within = elim (cases_eq top 0) [
      | inl z ↦ let h = can.room parent can.parent_taken in omega (arith, dropped_size)
      | inr up ↦ let h = can.room top (was_taken top (is_top.used (omega arith))) in omega (arith, dropped_size)
    ]

    -- there is room for each slot's sign
    pub slots_within : (k : ℕ) → k < length slots → m + get_or (slot_signs slots) k 0 < length dropped.signs
    slots_within k lt =
        let y = get_or (slot_signs slots) k 0 in
        let found = has_slot slots y (any_at (slot_signs slots) k (omega (arith, length-map slots (λ (s : Slot V). s.sign)))) in
        let le : y ≤ n = (can.stand y found.0 found.1).1 in
        omega (arith, room_within)

    past_free : (y : ℕ) → 0 < y → sign_at dropped (m + y) ≡ 0
    past_free y up = elim (cases_eq (sign_at dropped (m + y)) 0) [
      | inl z ↦ z
      | inr taken ↦ absurd (let le = is_top.most (m + y) taken in omega arith)
    ]

    old_base : base_at old m ≡ true → m ≢ was → ⊥
    old_base e other =
        let h = can.rooted m e other (omega arith) in
        let le = is_top.most (m + h.0) (λ z. h.2 (sym (outside_sign (m + h.0) h.3) ∙ z)) in
        omega (arith, h.1)

    no_base : base_at dropped m ≡ false
    no_base = elim (cases_Bool (base_at dropped m)) [
      | inr e ↦ e
      | inl e ↦ absurd (elim drops [
        | inl h ↦ old_base (sym (ap (λ (r : Row V). base_at r m) h.1 ∙ gives.others.bases m) ∙ e) (λ z. let x = h.0 in omega arith)
        | inr h ↦ elim (cases_eq m was) [
          | inl same ↦ false≢true (sym (ap (base_at dropped) same ∙ h.1.base_is) ∙ e)
          | inr other ↦ old_base (sym (h.1.bases m other ∙ gives.others.bases m) ∙ e) other
        ]
      ])
    ]

    pub room_fits : fits_row dropped (slot.sign ∷ slot_signs slots) m ≡ true
    room_fits = and_from (not (base_at dropped m)) (list_all (λ y. nat_eq (sign_at dropped (m + y)) 0) (slot.sign ∷ slot_signs slots)) (ap not no_base)
        (all_true (λ y. nat_eq (sign_at dropped (m + y)) 0) (slot.sign ∷ slot_signs slots) (λ y e. eq-eqb (sign_at dropped (m + y)) 0 (past_free y (positive y e))))
      where
        positive : (y : ℕ) → list_any (nat_eq y) (slot.sign ∷ slot_signs slots) ≡ true → 0 < y
        positive y e = elim (or_cases (nat_eq y slot.sign) (list_any (nat_eq y) (slot_signs slots)) e) [
          | inl same ↦ let is = eqb-true y slot.sign same in let up = can.sign.0 in omega arith
          | inr there ↦ let found = has_slot slots y there in (can.stand y found.0 found.1).0
        ]

    module _ (base : ℕ) (near : base ≤ m) (fits : fits_row dropped (slot.sign ∷ slot_signs slots) base ≡ true) where
      tests : list_all (λ y. nat_eq (sign_at dropped (base + y)) 0) (slot.sign ∷ slot_signs slots) ≡ true
      tests = (and_parts (not (base_at dropped base)) (list_all (λ y. nat_eq (sign_at dropped (base + y)) 0) (slot.sign ∷ slot_signs slots)) fits).1

      pub new_free : sign_at dropped (base + slot.sign) ≡ 0
      new_free = eqb-true (sign_at dropped (base + slot.sign)) 0 (and_parts (nat_eq (sign_at dropped (base + slot.sign)) 0)
          (list_all (λ y. nat_eq (sign_at dropped (base + y)) 0) (slot_signs slots)) tests).0

      pub slots_free : (x : ℕ) (k : Slot V) → slot_of slots x ≡ Some k → sign_at dropped (base + x) ≡ 0
      slots_free x k at = eqb-true (sign_at dropped (base + x)) 0
          (all_has (λ y. nat_eq (sign_at dropped (base + y)) 0) (slot.sign ∷ slot_signs slots) x tests (or_right (nat_eq x slot.sign) (list_any (nat_eq x) (slot_signs slots)) (slot_has slots x k at)))

      pub can_put : (x : ℕ) (k : Slot V) → slot_of slots x ≡ Some k → (0 < x) × (IsFree dropped (base + x)) × (k.child < length dropped.signs)
      can_put x k at =
          let h = can.stand x k at in
          let le : x ≤ n = h.1 in
          let child : k.child < length old.signs = h.3 in
          (h.0, get_or_default dropped.signs (base + x) 1 0 (omega (arith, room_within)) ∙ slots_free x k at, omega (arith, dropped_size))

      module _ (settled : Row V) (puts : PutsSlots dropped settled base slots) where
        pub can_take : IsFree settled (base + slot.sign)
        can_take =
            let same = puts.others.signs (base + slot.sign) (outside_here base slots slot.sign can.new) in
            let le : slot.sign ≤ n = can.sign.1 in
            get_or_default settled.signs (base + slot.sign) 1 0 (omega (arith, room_within, puts.others.size)) ∙ same ∙ new_free

        -- the parent's cell is none of the new ones
        pub parent_outside : IsOutsideFamily base slots parent
        parent_outside = elim (outside_or base slots parent) [
          | inl h ↦ absurd (can.parent_taken (sym (outside_sign parent can.parent_other) ∙ ap (sign_at dropped) h.2 ∙ slots_free h.0 h.1 h.3))
          | inr out ↦ out
        ]

        pub parent_not_new : parent ≢ base + slot.sign
        parent_not_new e = can.parent_taken (sym (outside_sign parent can.parent_other) ∙ ap (sign_at dropped) e ∙ new_free)

        pub parent_stays : (took flagged : Row V) → Takes settled took (base + slot.sign) slot.sign slot.value slot.child → SetsBase took flagged base true → sign_at flagged parent ≢ 0
        parent_stays took flagged t f z =
            can.parent_taken (sym (f.signs parent ∙ t.elsewhere.signs parent parent_not_new ∙ puts.others.signs parent parent_outside ∙ outside_sign parent can.parent_other) ∙ z)
