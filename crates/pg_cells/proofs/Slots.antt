-- The slot of a sign among slots.
use Rattle.std.proofs.Common.{◌≡◌, ◌≢◌, ℕ, ◌+◌, ◌<◌, ◌⊎◌, inl, inr, Bool, true, false, cond, nat_eq, List, [], ◌∷◌, ◌++◌, length, take, drop, get_or, Option, None, Some, ◌-◌, refl, sym, ◌∙◌, ap, subst, arith}
use Rattle.std.proofs.lemmas.Bool.{cases_Bool, cases_lt, eq-eqb, eqb-true, both_ways, false≢true, or_cases, or_left, or_right}
use Rattle.std.proofs.lemmas.List.{take-append-drop, drop_more, take_more, get_or-map}
use Rattle.std.specs.List.{list_any}
use Rattle.pg_cells.specs.declared.store.fit.Slot.{Slot}
use Rattle.pg_cells.specs.Inside.store.Fit.{slot_signs, slot_of}
use Rattle.pg_cells.specs.declared.store.member.Member.{Member}
use Rattle.pg_cells.specs.Inside.store.CellRows.{FitsCell}
use Rattle.pg_cells.specs.Inside.families.Moves.{AllFit, IsOutsideFamily, AreDistinct}

module _ {V : Type 0} where
  pub slot_front : (xs ys : List (Slot V)) (x : ℕ) (s : Slot V) → slot_of xs x ≡ Some s → slot_of (xs ++ ys) x ≡ Some s
  slot_front [] ys x s e = cc
  slot_front (k ∷ ks) ys x s e = by (nat_eq k.sign x) (slot_front ks ys x s) e
    where
      by : (b : Bool) → (slot_of ks x ≡ Some s → slot_of (ks ++ ys) x ≡ Some s) → cond b (Some k) (slot_of ks x) ≡ Some s → cond b (Some k) (slot_of (ks ++ ys) x) ≡ Some s
      by true rest e = e
      by false rest e = rest e

  pub slot_back : (xs ys : List (Slot V)) (x : ℕ) → slot_of xs x ≡ None → slot_of (xs ++ ys) x ≡ slot_of ys x
  slot_back [] ys x e = refl
  slot_back (k ∷ ks) ys x e = by (nat_eq k.sign x) (slot_back ks ys x) e
    where
      by : (b : Bool) → (slot_of ks x ≡ None → slot_of (ks ++ ys) x ≡ slot_of ys x) → cond b (Some k) (slot_of ks x) ≡ None → cond b (Some k) (slot_of (ks ++ ys) x) ≡ slot_of ys x
      by true rest e = cc
      by false rest e = rest e

  pub slot_sign : (xs : List (Slot V)) (x : ℕ) (s : Slot V) → slot_of xs x ≡ Some s → s.sign ≡ x
  slot_sign [] x s e = cc
  slot_sign (k ∷ ks) x s e = elim (cases_Bool (nat_eq k.sign x)) [
    | inl yes_here ↦
        let same : Some k ≡ Some s = ap (λ b. cond b (Some k) (slot_of ks x)) (sym yes_here) ∙ e in
        let is : k ≡ s = cc in
        ap (λ (y : Slot V). y.sign) (sym is) ∙ eqb-true k.sign x yes_here
    | inr no_here ↦ slot_sign ks x s (ap (λ b. cond b (Some k) (slot_of ks x)) (sym no_here) ∙ e)
  ]

  -- a slot or none
  pub slot_or_none : (xs : List (Slot V)) (x : ℕ) → ((s : Slot V) × (slot_of xs x ≡ Some s)) ⊎ (slot_of xs x ≡ None)
  slot_or_none xs x = by (slot_of xs x) refl
    where
      by : (o : Option (Slot V)) → slot_of xs x ≡ o → ((s : Slot V) × (slot_of xs x ≡ Some s)) ⊎ (slot_of xs x ≡ None)
      by None e = inr e
      by (Some s) e = inl (s, e)

  -- the slots have a slot of just the signs that they have
  pub slot_has : (xs : List (Slot V)) (x : ℕ) (s : Slot V) → slot_of xs x ≡ Some s → list_any (nat_eq x) (slot_signs xs) ≡ true
  slot_has [] x s e = cc
  slot_has (k ∷ ks) x s e = elim (cases_Bool (nat_eq k.sign x)) [
    | inl yes_here ↦ or_left (nat_eq x k.sign) (list_any (nat_eq x) (slot_signs ks)) (eq-eqb x k.sign (sym (eqb-true k.sign x yes_here)))
    | inr no_here ↦ or_right (nat_eq x k.sign) (list_any (nat_eq x) (slot_signs ks)) (slot_has ks x s (ap (λ b. cond b (Some k) (slot_of ks x)) (sym no_here) ∙ e))
  ]

  pub has_slot : (xs : List (Slot V)) (x : ℕ) → list_any (nat_eq x) (slot_signs xs) ≡ true → (s : Slot V) × (slot_of xs x ≡ Some s)
  has_slot [] x e = absurd (false≢true e)
  has_slot (k ∷ ks) x e = elim (cases_Bool (nat_eq k.sign x)) [
    | inl yes_here ↦ (k, ap (λ b. cond b (Some k) (slot_of ks x)) yes_here)
    | inr no_here ↦ elim (or_cases (nat_eq x k.sign) (list_any (nat_eq x) (slot_signs ks)) e) [
      | inl same ↦ absurd (both_ways (nat_eq k.sign x) no_here (eq-eqb k.sign x (sym (eqb-true x k.sign same))))
      | inr rest ↦ let found = has_slot ks x rest in (found.0, ap (λ b. cond b (Some k) (slot_of ks x)) no_here ∙ found.1)
    ]
  ]

  slot_alone : (y : Slot V) (x : ℕ) (s : Slot V) → slot_of (y ∷ []) x ≡ Some s → (x ≡ y.sign) × (s ≡ y)
  slot_alone y x s e = elim (cases_Bool (nat_eq y.sign x)) [
    | inl yes_here ↦
        let same : Some y ≡ Some s = ap (λ b. cond b (Some y) None) (sym yes_here) ∙ e in
        (sym (eqb-true y.sign x yes_here), cc)
    | inr no_here ↦ let none : None ≡ Some s = ap (λ b. cond b (Some y) None) (sym no_here) ∙ e in cc
  ]

  -- the slot of a sign among one more
  pub slot_push : (xs : List (Slot V)) (y : Slot V) (x : ℕ) (s : Slot V) → slot_of (xs ++ y ∷ []) x ≡ Some s → (slot_of xs x ≡ Some s) ⊎ ((slot_of xs x ≡ None) × (x ≡ y.sign) × (s ≡ y))
  slot_push xs y x s e = elim (slot_or_none xs x) [
    | inl h ↦ inl (h.1 ∙ sym (slot_front xs (y ∷ []) x h.0 h.1) ∙ e)
    | inr none ↦ let alone = slot_alone y x s (sym (slot_back xs (y ∷ []) x none) ∙ e) in inr (none, alone.0, alone.1)
  ]

  pub slot_last : (xs : List (Slot V)) (y : Slot V) → slot_of xs y.sign ≡ None → slot_of (xs ++ y ∷ []) y.sign ≡ Some y
  slot_last xs y none = slot_back xs (y ∷ []) y.sign none ∙ ap (λ b. cond b (Some y) None) (eq-eqb y.sign y.sign refl)

  pub outside_push : (base : ℕ) (xs : List (Slot V)) (y : Slot V) (i : ℕ) → slot_of xs y.sign ≡ None → IsOutsideFamily base (xs ++ y ∷ []) i → IsOutsideFamily base xs i × (i ≢ base + y.sign)
  outside_push base xs y i none out = (
    (λ x e. elim (slot_or_none xs x) [
      | inl h ↦ absurd (let there = slot_front xs (y ∷ []) x h.0 h.1 in let gone = out x e in cc)
      | inr gone ↦ gone
    ]),
    (λ e. let there = slot_last xs y none in let gone = out y.sign e in cc),
  )

  -- a cell at the base is outside, or it is that of a slot
  pub outside_or : (base : ℕ) (xs : List (Slot V)) (i : ℕ) → ((x : ℕ) × (s : Slot V) × (i ≡ base + x) × (slot_of xs x ≡ Some s)) ⊎ IsOutsideFamily base xs i
  outside_or base xs i = elim (cases_lt i base) [
    | inl lt ↦ inr (λ x e. absurd (omega arith))
    | inr le ↦
        let is : i ≡ base + (i - base) = omega arith in
        elim (slot_or_none xs (i - base)) [
          | inl h ↦ inl (i - base, h.0, is, h.1)
          | inr none ↦ inr (λ x e. let same : x ≡ i - base = omega arith in ap (slot_of xs) same ∙ none)
        ]
  ]

  -- the slot at an index is that of its sign
  pub slot_at : (xs : List (Slot V)) (k : ℕ) (d : Slot V) → k < length xs → slot_of (take k xs) (get_or xs k d).sign ≡ None → slot_of xs (get_or xs k d).sign ≡ Some (get_or xs k d)
  slot_at xs k d lt none =
      ap (λ l. slot_of l (get_or xs k d).sign) (sym (take-append-drop k xs))
      ∙ slot_back (take k xs) (drop k xs) (get_or xs k d).sign none
      ∙ ap (λ l. slot_of l (get_or xs k d).sign) (drop_more xs k d lt)
      ∙ ap (λ b. cond b (Some (get_or xs k d)) (slot_of (drop (k + 1) xs) (get_or xs k d).sign)) (eq-eqb (get_or xs k d).sign (get_or xs k d).sign refl)

  pub distinct_at : (xs : List (Slot V)) (k : ℕ) (d : Slot V) → k < length xs → AreDistinct xs → slot_of (take k xs) (get_or xs k d).sign ≡ None
  distinct_at xs k d lt distinct = ap (slot_of (take k xs)) (sym (get_or-map (λ (y : Slot V). y.sign) xs k d 0 lt)) ∙ distinct k lt

  -- what is known of the slot at an index
  pub slot_here : (xs : List (Slot V)) (k : ℕ) (y : Slot V) → y ≡ get_or xs k y → k < length xs → AreDistinct xs
      → (slot_of (take k xs) y.sign ≡ None) × (slot_of xs y.sign ≡ Some y) × (take (k + 1) xs ≡ take k xs ++ y ∷ [])
  slot_here xs k y is lt distinct =
      let none = ap (λ (z : Slot V). slot_of (take k xs) z.sign) is ∙ distinct_at xs k y lt distinct in (
        none,
        ap (λ (z : Slot V). slot_of xs z.sign) is ∙ slot_at xs k y lt (distinct_at xs k y lt distinct) ∙ ap Some (sym is),
        take_more xs k y lt ∙ ap (λ z. take k xs ++ z ∷ []) (sym is),
      )

  pub outside_here : (base : ℕ) (xs : List (Slot V)) (x : ℕ) → slot_of xs x ≡ None → IsOutsideFamily base xs (base + x)
  outside_here base xs x none z e = let same : z ≡ x = omega arith in ap (slot_of xs) same ∙ none

-- a slot whose value has room is added to such slots
pub fit_push : {V : Type 0} (xs : List (Slot (Member V))) (y : Slot (Member V)) → AllFit xs → FitsCell y.value → AllFit (xs ++ y ∷ [])
fit_push {V = V} xs y all fits x s e = elim (slot_push xs y x s e) [
  | inl there ↦ all x s there
  | inr here ↦ subst (λ (k : Slot (Member V)). FitsCell k.value) (sym here.2) fits
]

pub fit_none : {V : Type 0} → AllFit {V = V} []
fit_none x s e = cc
