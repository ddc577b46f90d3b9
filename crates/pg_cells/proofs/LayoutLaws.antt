-- What follows where families lie in a row of cells.
use Rattle.std.proofs.Common.{◌≡◌, ◌≢◌, ℕ, ◌+◌, ◌<◌, ◌≤◌, inl, inr, Bool, true, not, cond, ◌||◌, T, nat_eq, List, ◌∷◌, filter, Option, Some, suc, zero, refl, sym, ◌∙◌, ap, arith}
use Rattle.std.proofs.lemmas.Bool.{cases_Bool, cases_eq, false≢true, or_cases, or_left, or_right, eqb-true, eq-eqb, ne_eqb, both_ways}
use Rattle.std.specs.List.{list_any, range_with_len}
use Rattle.std.specs.FinMap.{is_sorted}
use Rattle.pg_types.specs.Placement.{Family, Families, family_at, top}
use Rattle.pg_types.specs.Inside.PlacementSteps.{is_base, is_used}
use Rattle.pg_cells.specs.Inside.store.CellRows.{Row, sign_at, child_at, base_at}
use Rattle.pg_cells.specs.Inside.store.Store.{IsTop}
use Rattle.pg_cells.specs.Inside.families.Layouts.{AreLaidOut, signs_at_base}
use Rattle.pg_cells.proofs.StringMaps.{order}
use Rattle.pg_cells.proofs.PlacementLaws.{used_cell, cell_used, base_had, had_base, top_is}

-- what stands in a filtered range
pub range_has : (test : ℕ → Bool) (a n x : ℕ) → list_any (nat_eq x) (filter test (range_with_len a n)) ≡ true → (a ≤ x) × (x < a + n) × (test x ≡ true)
range_has test a zero x e = absurd (false≢true e)
range_has test a (suc n) x e = elim (cases_Bool (test a)) [
  | inl passes ↦
      let here : (nat_eq x a || list_any (nat_eq x) (filter test (range_with_len (a + 1) n))) ≡ true =
      ap (λ b. list_any (nat_eq x) (cond b (a ∷ filter test (range_with_len (a + 1) n)) (filter test (range_with_len (a + 1) n)))) (sym passes) ∙ e in
      elim (or_cases (nat_eq x a) (list_any (nat_eq x) (filter test (range_with_len (a + 1) n))) here) [
        | inl same ↦ let is = eqb-true x a same in (omega arith, omega arith, ap test is ∙ passes)
        | inr rest ↦ let h = range_has test (a + 1) n x rest in (omega (arith, h.0), omega (arith, h.1), h.2)
      ]
  | inr fails ↦
      let there : list_any (nat_eq x) (filter test (range_with_len (a + 1) n)) ≡ true =
      ap (λ b. list_any (nat_eq x) (cond b (a ∷ filter test (range_with_len (a + 1) n)) (filter test (range_with_len (a + 1) n)))) (sym fails) ∙ e in
      let h = range_has test (a + 1) n x there in (omega (arith, h.0), omega (arith, h.1), h.2)
]

pub has_range : (test : ℕ → Bool) (a n x : ℕ) → a ≤ x → x < a + n → test x ≡ true → list_any (nat_eq x) (filter test (range_with_len a n)) ≡ true
has_range test a zero x le lt passes = absurd (omega arith)
has_range test a (suc n) x le lt passes = elim (cases_eq x a) [
  | inl same ↦
      let here : test a ≡ true = ap test (sym same) ∙ passes in
      ap (λ b. list_any (nat_eq x) (cond b (a ∷ filter test (range_with_len (a + 1) n)) (filter test (range_with_len (a + 1) n)))) here
      ∙ or_left (nat_eq x a) (list_any (nat_eq x) (filter test (range_with_len (a + 1) n))) (eq-eqb x a same)
  | inr other ↦
      let rest = has_range test (a + 1) n x (omega arith) (omega arith) passes in
      elim (cases_Bool (test a)) [
        | inl yes_here ↦ ap (λ b. list_any (nat_eq x) (cond b (a ∷ filter test (range_with_len (a + 1) n)) (filter test (range_with_len (a + 1) n)))) yes_here
            ∙ or_right (nat_eq x a) (list_any (nat_eq x) (filter test (range_with_len (a + 1) n))) rest
        | inr no_here ↦ ap (λ b. list_any (nat_eq x) (cond b (a ∷ filter test (range_with_len (a + 1) n)) (filter test (range_with_len (a + 1) n)))) no_here ∙ rest
      ]
]

-- tests that agree on a range leave the same of it
pub same_filter : (t u : ℕ → Bool) (a n : ℕ) → ((x : ℕ) → a ≤ x → x < a + n → t x ≡ u x) → filter t (range_with_len a n) ≡ filter u (range_with_len a n)
same_filter t u a zero h = refl
same_filter t u a (suc n) h =
    let rest = same_filter t u (a + 1) n (λ x le lt. h x (omega arith) (omega arith)) in
    λ i. cond (h a (omega arith) (omega arith) i) (a ∷ rest i) (rest i)

module _ {V : Type 0} (n : ℕ) (r : Row V) (F : List ℕ → Option Family) (layout : AreLaidOut n r F) where
  -- a sign of a family stands at its base
  pub sign_stands : (p : List ℕ) (f : Family) (x : ℕ) → F p ≡ Some f → list_any (nat_eq x) f.signs ≡ true → (0 < x) × (x ≤ n) × (sign_at r (f.base + x) ≡ x)
  sign_stands p f x at has =
      let h = range_has (λ y. nat_eq (sign_at r (f.base + y)) y) 1 n x (ap (list_any (nat_eq x)) (sym (layout.members p f at)) ∙ has) in
      (omega (arith, h.0), omega (arith, h.1), eqb-true (sign_at r (f.base + x)) x h.2)

  pub stands_sign : (p : List ℕ) (f : Family) (x : ℕ) → F p ≡ Some f → 0 < x → sign_at r (f.base + x) ≡ x → list_any (nat_eq x) f.signs ≡ true
  stands_sign p f x at positive is =
      let small = layout.small (f.base + x) in
      ap (list_any (nat_eq x)) (layout.members p f at) ∙ has_range (λ y. nat_eq (sign_at r (f.base + y)) y) 1 n x (omega arith) (omega arith) (eq-eqb (sign_at r (f.base + x)) x is)

  -- the family of a taken cell
  pub owner : (i x : ℕ) → sign_at r i ≡ x → 0 < x → (p : List ℕ) × (f : Family) × (F p ≡ Some f) × (i ≡ f.base + x)
  owner i x is positive =
      let o = layout.owned i (λ z. omega arith) in (o.0, o.1, o.2, o.3 ∙ ap (λ y. o.1.base + y) is)

module _ {V : Type 0} (n : ℕ) (r : Row V) (fs : Families) (sorted : T (is_sorted order fs)) (layout : AreLaidOut n r (family_at fs)) where
  pub used_taken : (i : ℕ) → is_used fs i ≡ true → sign_at r i ≢ 0
  used_taken i e z =
      let c = used_cell fs sorted i e in
      let s = sign_stands n r (family_at fs) layout c.prefix c.family c.sign c.at c.has in
      let same : sign_at r i ≡ c.sign = ap (sign_at r) c.is ∙ s.2 in
      omega (arith, s.0)

  pub taken_used : (i : ℕ) → sign_at r i ≢ 0 → is_used fs i ≡ true
  taken_used i up =
      let o = layout.owned i up in
      let here : sign_at r (o.1.base + sign_at r i) ≡ sign_at r i = ap (sign_at r) (sym o.3) in
      ap (is_used fs) o.3 ∙ cell_used fs o.0 o.1 (sign_at r i) o.2 (stands_sign n r (family_at fs) layout o.0 o.1 (sign_at r i) o.2 (omega arith) here)

  -- the tests of the row are those of the families
  pub free_test : (i : ℕ) → nat_eq (sign_at r i) 0 ≡ not (is_used fs i)
  free_test i = elim (cases_eq (sign_at r i) 0) [
    | inl z ↦ eq-eqb (sign_at r i) 0 z ∙ sym (elim (cases_Bool (is_used fs i)) [
      | inl e ↦ absurd (used_taken i e z)
      | inr e ↦ ap not e
    ])
    | inr up ↦ ne_eqb (sign_at r i) 0 up ∙ sym (ap not (taken_used i up))
  ]

  pub base_test : (b : ℕ) → base_at r b ≡ is_base fs b
  base_test b = elim (cases_Bool (base_at r b)) [
    | inl e ↦ let h = layout.flagged b e in e ∙ sym (ap (is_base fs) (sym h.3) ∙ had_base fs h.0 h.1 h.2)
    | inr e ↦ e ∙ sym (elim (cases_Bool (is_base fs b)) [
      | inl f ↦ let h = base_had fs sorted b f in absurd (both_ways (base_at r b) e (ap (base_at r) h.3 ∙ layout.flag h.0 h.1 h.2))
      | inr f ↦ f
    ])
  ]

  pub top_same : (t : ℕ) → IsTop r.signs t → t ≡ top fs
  top_same t is = top_is fs t (λ i e. is.most i (used_taken i e)) (λ up. taken_used t (is.used up))

-- families lie in every row that has the same signs, children and flags
pub laid_alike : {V : Type 0} {n : ℕ} {r : Row V} (F : List ℕ → Option Family) → AreLaidOut n r F → (new : Row V)
    → ((i : ℕ) → sign_at new i ≡ sign_at r i) → ((i : ℕ) → child_at new i ≡ child_at r i) → ((b : ℕ) → base_at new b ≡ base_at r b) → AreLaidOut n new F
laid_alike {V} {n} {r} F layout new signs children bases = record {
  root = layout.root;
  members = λ p f at. layout.members p f at ∙ stand f.base;
  filled = layout.filled;
  parent = λ p x f at. let h = layout.parent p x f at in record {
    above = h.above;
    at = h.at;
    sign = signs (h.above.base + x) ∙ h.sign;
    child = children (h.above.base + x) ∙ h.child;
    base = h.base;
    positive = h.positive;
  };
  child = λ p x g at up is down.
      let h = layout.child p x g at up (sym (signs (g.base + x)) ∙ is) (let e = children (g.base + x) in omega arith) in
      (h.0, h.1, h.2 ∙ sym (children (g.base + x)));
  apart = layout.apart;
  owned = λ i up. let h = layout.owned i (λ z. up (signs i ∙ z)) in (h.0, h.1, h.2, h.3 ∙ ap (λ x. h.1.base + x) (sym (signs i)));
  small = λ i. let h = layout.small i in let e = signs i in omega arith;
  flag = λ p f at. bases f.base ∙ layout.flag p f at;
  flagged = λ b e. layout.flagged b (sym (bases b) ∙ e);
}
  where
    stand : (base : ℕ) → signs_at_base n r base ≡ signs_at_base n new base
    stand base = λ t. filter (λ x. nat_eq (sym (signs (base + x)) t) x) (range_with_len 1 n)
