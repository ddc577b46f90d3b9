-- What each write of a cell leaves of the bounds by sign.
use Rattle.std.proofs.Common.{◌≡◌, ◌≢◌, ℕ, ◌+◌, ◌<◌, ◌≤◌, max, inl, inr, Bool, true, false, not, nat_eq, List, [], ◌∷◌, refl, sym, ◌∙◌, ap, get_or, set, length, ◌-◌, arith}
use Rattle.std.specs.List.{list_all}
use Rattle.std.proofs.lemmas.Bool.{cases_Bool, cases_eq, cases_lt, eq-eqb, both_ways, and_left, and_from}
use Rattle.std.proofs.lemmas.List.{get_or-set_same, get_or-set_other}
use Rattle.pg_types.specs.Inside.Placing.{IsLeast}
use Rattle.pg_cells.specs.Inside.store.CellRows.{Row, sign_at, base_at}
use Rattle.pg_cells.specs.Inside.store.Bounds.{IsBelowBounds, NoneFree, AreBounds}
use Rattle.pg_cells.specs.Inside.store.Fit.{fits_row}
use Rattle.pg_cells.specs.Inside.store.Store.{Extends}
use Rattle.pg_cells.specs.Inside.store.Writes.{Takes, Frees, SetsChild, SetsRowValue, SetsBase}
use Rattle.pg_cells.proofs.FitSteps.{taken_misfit}

module _ {V : Type 0} (old new : Row V) (lows : List ℕ) (freed dropped : ℕ) (are : AreBounds old lows freed dropped) where
  -- where taken cells stay taken and no base is given up
  pub bounds_kept : ((i : ℕ) → sign_at old i ≢ 0 → sign_at new i ≢ 0) → ((b : ℕ) → base_at new b ≡ false → base_at old b ≡ false) → AreBounds new lows freed dropped
  bounds_kept signs bases s b up below none = signs (b + s) (are s b up below (bases b none))

  pub bounds_take : (cell sign child : ℕ) (v : V) → sign ≢ 0 → Takes old new cell sign v child → AreBounds new lows freed dropped
  bounds_take cell sign child v some takes = bounds_kept (λ i up z. elim (cases_eq i cell) [
    | inl e ↦ some (sym takes.sign_is ∙ ap (sign_at new) (sym e) ∙ z)
    | inr n ↦ up (sym (takes.elsewhere.signs i n) ∙ z)
  ]) (λ b e. sym (takes.elsewhere.bases b) ∙ e)

  pub bounds_child : (cell child : ℕ) → SetsChild old new cell child → AreBounds new lows freed dropped
  bounds_child cell child sets = bounds_kept (λ i up z. elim (cases_eq i cell) [
    | inl e ↦ up (ap (sign_at old) e ∙ sym sets.sign_is ∙ ap (sign_at new) (sym e) ∙ z)
    | inr n ↦ up (sym (sets.elsewhere.signs i n) ∙ z)
  ]) (λ b e. sym (sets.elsewhere.bases b) ∙ e)

  pub bounds_value : (cell : ℕ) (v : V) → SetsRowValue old new cell v → AreBounds new lows freed dropped
  bounds_value cell v sets = bounds_kept (λ i up z. elim (cases_eq i cell) [
    | inl e ↦ up (ap (sign_at old) e ∙ sym sets.sign_is ∙ ap (sign_at new) (sym e) ∙ z)
    | inr n ↦ up (sym (sets.elsewhere.signs i n) ∙ z)
  ]) (λ b e. sym (sets.elsewhere.bases b) ∙ e)

  pub bounds_grow : Extends old new → AreBounds new lows freed dropped
  bounds_grow grows = bounds_kept (λ i up z. up (sym (grows.signs i) ∙ z)) (λ b e. sym (grows.bases b) ∙ e)

  pub bounds_free : (cell least : ℕ) → least ≤ freed → least ≤ cell → Frees old new cell → AreBounds new lows least dropped
  bounds_free cell least le at frees s b up below none z =
      let far = below.under_cell in
      let other : b + s ≢ cell = omega arith in
      are s b up (record { under_low = below.under_low; under_base = below.under_base; under_cell = omega arith }) (sym (frees.elsewhere.bases b) ∙ none)
      (sym (frees.elsewhere.signs (b + s) other) ∙ z)

  pub bounds_base : (base least : ℕ) (flag : Bool) → least ≤ dropped → (flag ≡ false → least ≤ base) → SetsBase old new base flag → AreBounds new lows freed least
  bounds_base base least flag le at sets s b up below none z = elim (cases_eq b base) [
    | inl e ↦ absurd (let is : flag ≡ false = sym sets.base_is ∙ ap (base_at new) (sym e) ∙ none in let far = below.under_base in let here = at is in omega arith)
    | inr n ↦
        are s b up (record { under_low = below.under_low; under_base = (let far = below.under_base in omega arith); under_cell = below.under_cell })
        (sym (sets.bases b n) ∙ none) (sym (sets.signs (b + s)) ∙ z)
  ]

-- one bound more is lowered
pub lower_below : (lows first : List ℕ) (freed dropped i v : ℕ) → i < length lows → v ≤ get_or lows i 0 → v ≤ dropped → v ≤ freed - i
    → ((s b : ℕ) → s < i → b < get_or lows s 0 → IsBelowBounds first freed dropped s b) → ((s : ℕ) → i ≤ s → get_or lows s 0 ≡ get_or first s 0)
    → (s b : ℕ) → s < i + 1 → b < get_or (set lows i v) s 0 → IsBelowBounds first freed dropped s b
lower_below lows first freed dropped i v within low base cell below above s b lt less = elim (cases_eq s i) [
  | inl e ↦
      let here : get_or (set lows i v) s 0 ≡ v = ap (λ x. get_or (set lows i v) x 0) e ∙ get_or-set_same lows i v 0 within in
      let first_here : get_or lows i 0 ≡ get_or first s 0 = above i (omega arith) ∙ ap (λ x. get_or first x 0) (sym e) in
      record { under_low = omega arith; under_base = omega arith; under_cell = omega arith }
  | inr n ↦ (let there : get_or (set lows i v) s 0 ≡ get_or lows s 0 = get_or-set_other lows i s v 0 n in below s b (omega arith) (omega arith))
]

-- the bound of one sign is raised, and the others are lowered
pub bounds_raise : {V : Type 0} (r : Row V) (lows raised : List ℕ) (freed dropped sign low far_cell far_base : ℕ) → AreBounds r lows freed dropped
    → get_or raised sign 0 ≤ low → ((s b : ℕ) → s ≢ sign → b < get_or raised s 0 → IsBelowBounds lows freed dropped s b)
    → ((b : ℕ) → 0 < b → b < low → NoneFree r sign b) → AreBounds r raised far_cell far_base
bounds_raise r lows raised freed dropped sign low far_cell far_base are here there none s b up below = elim (cases_eq s sign) [
  | inl e ↦ let far : b < get_or raised s 0 = below.under_low in let same : get_or raised s 0 ≡ get_or raised sign 0 = ap (λ x. get_or raised x 0) e in by e (none b up (omega arith))
  | inr n ↦ are s b up (there s b n below.under_low)
]
  where
    by : s ≡ sign → NoneFree r sign b → NoneFree r s b
    by e free flag z = free flag (ap (λ x. sign_at r (b + x)) (sym e) ∙ z)

-- a base that is not free for one of the signs does not fit
pub not_free : {V : Type 0} (r : Row V) (signs : List ℕ) (k sign : ℕ) → k < length signs → get_or signs k 0 ≡ sign → (b : ℕ) → NoneFree r sign b → fits_row r signs b ≡ false
not_free r signs k sign lt at b none = elim (cases_Bool (base_at r b)) [
  | inl base ↦ and_left (not (base_at r b)) (list_all (λ s. nat_eq (sign_at r (b + s)) 0) signs) (ap not base)
  | inr flag ↦ taken_misfit r signs k sign lt at b (none flag)
]

-- no base fits below what was tried nor below a bound
pub below_both : (fits : ℕ → Bool) (low tried bound : ℕ) → 0 < low → ((k : ℕ) → low ≤ k → k < tried → fits k ≡ false) → ((b : ℕ) → 0 < b → b < bound → fits b ≡ false)
    → (k : ℕ) → low ≤ k → k < max tried bound → fits k ≡ false
below_both fits low tried bound up were none k le lt = elim (cases_lt k tried) [
  | inl less ↦ were k le less
  | inr more ↦ none k (omega arith) (omega arith)
]

-- where one sign does not fit, the base is not free
lone : {V : Type 0} (r : Row V) (sign b : ℕ) → fits_row r (sign ∷ []) b ≡ false → NoneFree r sign b
lone r sign b fails flag z =
    both_ways (fits_row r (sign ∷ []) b) fails
    (and_from (not (base_at r b)) (list_all (λ s. nat_eq (sign_at r (b + s)) 0) (sign ∷ [])) (ap not flag) (and_from (nat_eq (sign_at r (b + sign)) 0) true (eq-eqb (sign_at r (b + sign)) 0 z) refl))

-- after a search for one sign no base below the answer is free
pub none_below : {V : Type 0} (r : Row V) (sign low bound base : ℕ) → low ≤ max bound 1 → ((b : ℕ) → 0 < b → b < bound → fits_row r (sign ∷ []) b ≡ false)
    → IsLeast (fits_row r (sign ∷ [])) low base → (b : ℕ) → 0 < b → b < base → NoneFree r sign b
none_below r sign low bound base le none least b up lt = lone r sign b (elim (cases_lt b bound) [
  | inl below ↦ none b up below
  | inr above ↦ least.first b (omega arith) lt
])

-- a list of no elements
pub no_elements : {A : Type 0} (xs : List A) → length xs ≡ 0 → xs ≡ []
no_elements [] e = refl
no_elements (x ∷ xs) e = absurd (omega arith)
