-- What each write of a cell leaves of the bases that can't take a family, and what a search finds because of them.
use Rattle.std.proofs.Common.{◌≡◌, ◌≢◌, ℕ, ◌+◌, ◌<◌, ◌≤◌, max, inl, inr, Bool, true, false, cond, not, nat_eq, List, [], ◌∷◌, Some, None, refl, sym, ◌∙◌, ap, arith}
use Rattle.std.specs.List.{list_any, list_all}
use Rattle.std.proofs.lemmas.Bool.{cases_Bool, cases_eq, cases_lt, eq-eqb, eqb-true, both_ways, and_left, and_from, and_parts, or_cases, or_left, or_right, not-true, false≢true}
use Rattle.std.proofs.lemmas.List.{get_or_default}
use Rattle.pg_types.specs.Inside.Placing.{IsLeast}
use Rattle.pg_cells.specs.declared.store.fit.Slot.{Slot}
use Rattle.pg_cells.specs.Inside.store.CellRows.{Row, sign_at, base_at, IsFree}
use Rattle.pg_cells.specs.Inside.store.BlockedBases.{AreBlocked}
use Rattle.pg_cells.specs.Inside.store.Fit.{fits_row, slot_signs, slot_of}
use Rattle.pg_cells.specs.Inside.store.Store.{Extends, IsTop}
use Rattle.pg_cells.specs.Inside.store.Writes.{Takes, SetsChild, SetsRowValue, SetsBase}
use Rattle.pg_cells.specs.Inside.families.Moves.{CanPlace, GivesUp, DropsBase, PutsSlots}
use Rattle.pg_cells.proofs.FitSteps.{taken_misfit}
use Rattle.pg_cells.proofs.RowCells.{free_within}
use Rattle.pg_cells.proofs.PlacedRoom.{outside_sign, was_taken, new_free, slots_free, dropped_sign, all_has}
use Rattle.pg_cells.proofs.Slots.{has_slot, slot_has, slot_or_none, outside_or, outside_here}

-- a free cell has no sign
pub free_sign : {V : Type 0} (r : Row V) (cell : ℕ) → IsFree r cell → sign_at r cell ≡ 0
free_sign r cell free = sym (get_or_default r.signs cell 1 0 (free_within r cell free)) ∙ free

-- where nothing is below
pub blocked_none : {V : Type 0} (r : Row V) (placed from : ℕ) → placed ≤ from → AreBlocked r placed from
blocked_none r placed from le k low lt = absurd (omega arith)

module _ {V : Type 0} (old new : Row V) (placed from : ℕ) (are : AreBlocked old placed from) where
  -- where taken cells keep their signs and no base is given up
  pub blocked_kept : ((i : ℕ) → sign_at old i ≢ 0 → sign_at new i ≡ sign_at old i) → ((b : ℕ) → base_at old b ≡ true → base_at new b ≡ true) → AreBlocked new placed from
  blocked_kept signs bases k low lt = elim (are k low lt) [
    | inl base ↦ inl (bases k base)
    | inr h ↦
        let x = h.0 in
        let own : sign_at new (placed + x) ≡ x = signs (placed + x) (λ z. let up = h.1 in let is = h.2 in omega arith) ∙ h.2 in
        let there : sign_at new (k + x) ≡ sign_at old (k + x) = signs (k + x) h.3 in
        inr (x, h.1, own, (λ z. h.3 (sym there ∙ z)), (λ e. h.4 (omega arith)))
  ]

  pub blocked_take : (cell sign child : ℕ) (v : V) → sign_at old cell ≡ 0 → Takes old new cell sign v child → AreBlocked new placed from
  blocked_take cell sign child v free takes = blocked_kept (λ i up. takes.elsewhere.signs i (λ e. up (ap (sign_at old) e ∙ free))) (λ b e. takes.elsewhere.bases b ∙ e)

  pub blocked_child : (cell child : ℕ) → SetsChild old new cell child → AreBlocked new placed from
  blocked_child cell child sets = blocked_kept (λ i up. elim (cases_eq i cell) [
    | inl e ↦ ap (sign_at new) e ∙ sets.sign_is ∙ ap (sign_at old) (sym e)
    | inr n ↦ sets.elsewhere.signs i n
  ]) (λ b e. sets.elsewhere.bases b ∙ e)

  pub blocked_value : (cell : ℕ) (v : V) → SetsRowValue old new cell v → AreBlocked new placed from
  blocked_value cell v sets = blocked_kept (λ i up. elim (cases_eq i cell) [
    | inl e ↦ ap (sign_at new) e ∙ sets.sign_is ∙ ap (sign_at old) (sym e)
    | inr n ↦ sets.elsewhere.signs i n
  ]) (λ b e. sets.elsewhere.bases b ∙ e)

  pub blocked_grow : Extends old new → AreBlocked new placed from
  blocked_grow grows = blocked_kept (λ i up. grows.signs i) (λ b e. grows.bases b ∙ e)

  -- a base more, or one less, after which nothing is told
  pub blocked_base : (base : ℕ) (flag : Bool) → SetsBase old new base flag → AreBlocked new (cond flag placed 0) from
  blocked_base base true sets = blocked_kept (λ i up. sets.signs i) (λ b e. elim (cases_eq b base) [
    | inl same ↦ ap (base_at new) same ∙ sets.base_is
    | inr n ↦ sets.bases b n ∙ e
  ])
  blocked_base base false sets = blocked_none new 0 from (omega arith)

-- a test that some element of the list fails
some_fails : (test : ℕ → Bool) (xs : List ℕ) → list_all test xs ≡ false → (x : ℕ) × (list_any (nat_eq x) xs ≡ true) × (test x ≡ false)
some_fails test [] e = absurd (false≢true (sym e))
some_fails test (x ∷ xs) e = elim (cases_Bool (test x)) [
  | inr fails ↦ (x, or_left (nat_eq x x) (list_any (nat_eq x) xs) (eq-eqb x x refl), fails)
  | inl passes ↦ elim (cases_Bool (list_all test xs)) [
    | inl all ↦ absurd (both_ways (list_all test (x ∷ xs)) e (and_from (test x) (list_all test xs) passes all))
    | inr left ↦
        let rest = some_fails test xs left in
        (rest.0, or_right (nat_eq rest.0 x) (list_any (nat_eq rest.0) xs) rest.1, rest.2)
  ]
]

module _ {V : Type 0} (n : ℕ) (old gave dropped : Row V) (was : ℕ) (slots : List (Slot V)) (slot : Slot V) (parent : ℕ)
    (can : CanPlace n old was slots slot parent) (gives : GivesUp old gave was slots) (drops : DropsBase gave dropped was) where
  -- a base other than the old one stays
  base_stays : (b : ℕ) → b ≢ was → base_at dropped b ≡ base_at old b
  base_stays b other = elim drops [ inl h ↦ ap (λ (r : Row V). base_at r b) h.1 | inr h ↦ h.1.bases b other ] ∙ gives.others.bases b

  -- a cell that does not stand at the old base keeps its sign
  stays : (i : ℕ) → sign_at old i + was ≢ i → sign_at dropped i ≡ sign_at old i
  stays i apart = outside_sign n old gave dropped was slots slot parent can gives drops i (λ x e. elim (slot_or_none slots x) [
    | inr none ↦ none
    | inl h ↦ absurd (let own : sign_at old (was + x) ≡ x = can.stands x h.0 h.1 in let here : sign_at old i ≡ sign_at old (was + x) = ap (sign_at old) e in apart (omega arith))
  ])

  -- the family that gave up its cells fits at no base that could not take it, nor at its own with the sign
  pub blocked_fits : (from : ℕ) → 0 < was → AreBlocked old was from → (k : ℕ) → from ≤ k → k < was + 1 → fits_row dropped (slot.sign ∷ slot_signs slots) k ≡ false
  blocked_fits from up are k low lt = elim (cases_lt k was) [
    | inr ge ↦
        let same : k ≡ was = omega arith in
        let kept : sign_at dropped (was + slot.sign) ≡ sign_at old (was + slot.sign) =
        outside_sign n old gave dropped was slots slot parent can gives drops (was + slot.sign) (outside_here was slots slot.sign can.new) in
        ap (fits_row dropped (slot.sign ∷ slot_signs slots)) same ∙ taken_misfit dropped (slot.sign ∷ slot_signs slots) 0 slot.sign (omega arith) refl was (λ z. can.sign_taken up (sym kept ∙ z))
    | inl below ↦ elim (are k low below) [
      | inl base ↦ and_left (not (base_at dropped k)) (list_all (λ s. nat_eq (sign_at dropped (k + s)) 0) (slot.sign ∷ slot_signs slots)) (ap not (base_stays k (omega arith) ∙ base))
      | inr h ↦
          let x = h.0 in
          let found = can.owns x up h.1 h.2 in
          let kept : sign_at dropped (k + x) ≡ sign_at old (k + x) = stays (k + x) h.4 in
          fails k x (slot_has slots x found.0 found.1) (λ z. h.3 (sym kept ∙ z))
    ]
  ]
    where
      fails : (b x : ℕ) → list_any (nat_eq x) (slot_signs slots) ≡ true → sign_at dropped (b + x) ≢ 0 → fits_row dropped (slot.sign ∷ slot_signs slots) b ≡ false
      fails b x there taken = elim (cases_Bool (fits_row dropped (slot.sign ∷ slot_signs slots) b)) [
        | inr e ↦ e
        | inl e ↦ absurd (
            let all = (and_parts (not (base_at dropped b)) (list_all (λ s. nat_eq (sign_at dropped (b + s)) 0) (slot.sign ∷ slot_signs slots)) e).1 in
            let rest = (and_parts (nat_eq (sign_at dropped (b + slot.sign)) 0) (list_all (λ s. nat_eq (sign_at dropped (b + s)) 0) (slot_signs slots)) all).1 in
            taken (eqb-true (sign_at dropped (b + x)) 0 (all_has (λ s. nat_eq (sign_at dropped (b + s)) 0) (slot_signs slots) x rest there)))
      ]

  -- after the search the bases below the one that was found can't take the family
  module _ (top : ℕ) (is_top : IsTop dropped.signs top) (base low : ℕ) (near : base ≤ max top 1) (up : 0 < base) (least : IsLeast (fits_row dropped (slot.sign ∷ slot_signs slots)) low base)
      (settled took flagged : Row V) (puts : PutsSlots dropped settled base slots) (takes : Takes settled took (base + slot.sign) slot.sign slot.value slot.child)
      (flags : SetsBase took flagged base true) where
    fresh : sign_at dropped (base + slot.sign) ≡ 0
    fresh = new_free n old gave dropped was slots slot parent can gives drops top is_top (max top 1) refl base near least.meets

    free_slot : (x : ℕ) (k : Slot V) → slot_of slots x ≡ Some k → sign_at dropped (base + x) ≡ 0
    free_slot = slots_free n old gave dropped was slots slot parent can gives drops top is_top (max top 1) refl base near least.meets

    no_base : base_at dropped base ≡ false
    no_base = not-true (base_at dropped base) (and_parts (not (base_at dropped base)) (list_all (λ y. nat_eq (sign_at dropped (base + y)) 0) (slot.sign ∷ slot_signs slots)) least.meets).0

    -- a taken cell keeps its sign
    taken_stays : (i : ℕ) → sign_at dropped i ≢ 0 → sign_at flagged i ≡ sign_at dropped i
    taken_stays i taken = flags.signs i ∙ takes.elsewhere.signs i (λ e. taken (ap (sign_at dropped) e ∙ fresh)) ∙ puts.others.signs i (elim (outside_or base slots i) [
      | inl h ↦ absurd (taken (ap (sign_at dropped) h.2 ∙ free_slot h.0 h.1 h.3))
      | inr out ↦ out
    ])

    -- no cell stood at the base
    none_stood : (i : ℕ) → sign_at dropped i ≢ 0 → sign_at dropped i + base ≢ i
    none_stood i taken e =
        let was_there = was_taken n old gave dropped was slots slot parent can gives drops i taken in
        let o = can.based i was_there in
        let same : sign_at dropped i ≡ sign_at old i = kept i taken in
        let is : o.0 ≡ base = let here = o.2 in omega arith in
        elim (cases_eq base was) [
          | inr other ↦ false≢true (sym no_base ∙ base_stays base other ∙ ap (base_at old) (sym is) ∙ o.1)
          | inl at ↦
              let stood : sign_at old (was + sign_at old i) ≡ sign_at old i = ap (sign_at old) (omega arith) in
              let found = can.owns (sign_at old i) (omega arith) (positive (sign_at old i) was_there) stood in
              taken (ap (sign_at dropped) (let here = o.2 in omega arith) ∙ dropped_sign n old gave dropped was slots slot parent can gives drops (was + sign_at old i)
              ∙ gives.free (sign_at old i) found.0 found.1)
        ]
      where
        positive : (x : ℕ) → x ≢ 0 → 0 < x
        positive x some = omega arith

        kept : (i : ℕ) → sign_at dropped i ≢ 0 → sign_at dropped i ≡ sign_at old i
        kept i taken = elim (outside_or was slots i) [
          | inl h ↦ absurd (taken (dropped_sign n old gave dropped was slots slot parent can gives drops i ∙ ap (sign_at gave) h.2 ∙ gives.free h.0 h.1 h.3))
          | inr out ↦ outside_sign n old gave dropped was slots slot parent can gives drops i out
        ]

    -- a sign of the family stands at the base
    stands_there : (x : ℕ) → list_any (nat_eq x) (slot.sign ∷ slot_signs slots) ≡ true → (0 < x) × (sign_at flagged (base + x) ≡ x)
    stands_there x there = elim (or_cases (nat_eq x slot.sign) (list_any (nat_eq x) (slot_signs slots)) there) [
      | inl same ↦
          let e : x ≡ slot.sign = eqb-true x slot.sign same in
          ((let some = can.sign.0 in omega arith), flags.signs (base + x) ∙ ap (λ y. sign_at took (base + y)) e ∙ takes.sign_is ∙ sym e)
      | inr rest ↦
          let found = has_slot slots x rest in
          ((can.stand x found.0 found.1).0, flags.signs (base + x) ∙ takes.elsewhere.signs (base + x) (λ e. other x found.0 found.1 (omega arith)) ∙ (puts.at x found.0 found.1).0)
    ]
      where
        other : (x : ℕ) (k : Slot V) → slot_of slots x ≡ Some k → x ≢ slot.sign
        other x k at e = let none : None ≡ Some k = sym can.new ∙ ap (slot_of slots) (sym e) ∙ at in cc

    pub blocked_after : AreBlocked flagged base low
    blocked_after k from lt = elim (cases_Bool (base_at dropped k)) [
      | inl e ↦ inl (flags.bases k (omega arith) ∙ takes.elsewhere.bases k ∙ puts.others.bases k ∙ e)
      | inr e ↦ elim (cases_Bool (list_all (λ s. nat_eq (sign_at dropped (k + s)) 0) (slot.sign ∷ slot_signs slots))) [
        | inl all ↦ absurd (both_ways (fits_row dropped (slot.sign ∷ slot_signs slots) k) (least.first k from lt)
            (and_from (not (base_at dropped k)) (list_all (λ s. nat_eq (sign_at dropped (k + s)) 0) (slot.sign ∷ slot_signs slots)) (ap not e) all))
        | inr fails ↦
            let f = some_fails (λ s. nat_eq (sign_at dropped (k + s)) 0) (slot.sign ∷ slot_signs slots) fails in
            let taken : sign_at dropped (k + f.0) ≢ 0 = λ z. both_ways (nat_eq (sign_at dropped (k + f.0)) 0) f.2 (eq-eqb (sign_at dropped (k + f.0)) 0 z) in
            let here = stands_there f.0 f.1 in
            let same : sign_at flagged (k + f.0) ≡ sign_at dropped (k + f.0) = taken_stays (k + f.0) taken in
            inr (f.0, here.0, here.1, (λ z. taken (sym same ∙ z)), (λ z. none_stood (k + f.0) taken (omega arith)))
      ]
    ]

module _ {V : Type 0} (r : Row V) (signs : List ℕ) (low tried : ℕ) (fails : (k : ℕ) → low ≤ k → k < tried → fits_row r signs k ≡ false) where
  -- what fails up to there fits no base below
  pub tried_within : (room : ℕ) → low ≤ room → fits_row r signs room ≡ true → max low tried ≤ room
  tried_within room le fits = elim (cases_lt room tried) [
    | inl lt ↦ absurd (both_ways (fits_row r signs room) (fails room le lt) fits)
    | inr ge ↦ omega arith
  ]

  -- so a search from there finds what one from further down finds
  pub least_tried : (base : ℕ) → IsLeast (fits_row r signs) (max low tried) base → IsLeast (fits_row r signs) low base
  least_tried base least = record {
    from = (let from = least.from in omega arith);
    meets = least.meets;
    first = λ k le lt. elim (cases_lt k tried) [
      | inl below ↦ fails k le below
      | inr above ↦ least.first k (omega arith) lt
    ];
  }
