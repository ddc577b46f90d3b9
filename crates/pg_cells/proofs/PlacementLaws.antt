-- Laws of placements: which cells are used and which bases are had, how many cells there are and which is the greatest, and
-- the least base.
use Rattle.std.proofs.Common.{◌≡◌, ℕ, ◌+◌, ◌<◌, ◌≤◌, max, inl, inr, Bool, true, false, not, cond, ◌||◌, T, nat_eq, List, [], ◌∷◌, ◌++◌, length, map, fold, Option, None, Some, unwrap_or, suc, zero, refl, sym, ◌∙◌, ap, arith}
use Rattle.std.proofs.lemmas.Bool.{cases_Bool, cases_eq, false≢true, or_cases, or_left, or_right, eqb-true, eq-eqb, both_ways}
use Rattle.std.proofs.lemmas.List.{length-append, length-map, append-nil, append_assoc}
use Rattle.std.proofs.lemmas.List.Folds.{list_any-append}
use Rattle.std.specs.declared.cmp.Ordering.TheVariants.{Less, Equal, Greater}
use Rattle.std.specs.Ordering.{is_eq}
use Rattle.std.specs.List.{list_any, flat_map, range_with_len, find as find_that}
use Rattle.std.specs.FinMap.{find, put, is_sorted}
use Rattle.std.specs.FinMap.Entries.{by_order}
use Rattle.pg_types.specs.Placement.{Family, Families, family_at, used_cells, top}
use Rattle.pg_types.specs.Inside.PlacementSteps.{cell_in, is_base, is_used, taken_count, without_family}
use Rattle.pg_types.specs.Inside.Placing.{cell_after, cell_of, cells_of}
use Rattle.pg_types.proofs.LeastBase.{used_le_top, find_first, find_later}
use Rattle.pg_cells.proofs.StringMaps.{order, equal_or_not, any_found, found_any, find_below, below_less, head_below, tail_sorted}

-- a test of some element of lists joined end to end
any_flat : {A : Type 0} (test : ℕ → Bool) (f : A → List ℕ) (xs : List A) → list_any test (flat_map f xs) ≡ list_any (λ x. list_any test (f x)) xs
any_flat test f [] = refl
any_flat test f (x ∷ xs) = list_any-append test (f x) (flat_map f xs) ∙ ap (λ b. list_any test (f x) || b) (any_flat test f xs)

-- a cell of a family is that of one of its signs
cell_sign : (f : Family) (signs : List ℕ) (i : ℕ) → list_any (nat_eq i) (map (λ s. f.base + s) signs) ≡ true → (x : ℕ) × (list_any (nat_eq x) signs ≡ true) × (i ≡ f.base + x)
cell_sign f [] i e = absurd (false≢true e)
cell_sign f (s ∷ ss) i e = elim (or_cases (nat_eq i (f.base + s)) (list_any (nat_eq i) (map (λ x. f.base + x) ss)) e) [
  | inl here ↦ (s, or_left (nat_eq s s) (list_any (nat_eq s) ss) (eq-eqb s s refl), eqb-true i (f.base + s) here)
  | inr there ↦ let rest = cell_sign f ss i there in (rest.0, or_right (nat_eq rest.0 s) (list_any (nat_eq rest.0) ss) rest.1, rest.2)
]

sign_cell : (f : Family) (signs : List ℕ) (x : ℕ) → list_any (nat_eq x) signs ≡ true → list_any (nat_eq (f.base + x)) (map (λ s. f.base + s) signs) ≡ true
sign_cell f [] x e = absurd (false≢true e)
sign_cell f (s ∷ ss) x e = elim (or_cases (nat_eq x s) (list_any (nat_eq x) ss) e) [
  | inl here ↦ or_left (nat_eq (f.base + x) (f.base + s)) (list_any (nat_eq (f.base + x)) (map (λ y. f.base + y) ss)) (eq-eqb (f.base + x) (f.base + s) (ap (λ y. f.base + y) (eqb-true x s here)))
  | inr there ↦ or_right (nat_eq (f.base + x) (f.base + s)) (list_any (nat_eq (f.base + x)) (map (λ y. f.base + y) ss)) (sign_cell f ss x there)
]

-- a used cell is that of a sign of a family
pub record IsCell (fs : Families) (i : ℕ) : Type 0 where
  pub prefix : List ℕ
  pub family : Family
  pub sign : ℕ
  pub at : family_at fs prefix ≡ Some family
  pub has : list_any (nat_eq sign) family.signs ≡ true
  pub is : i ≡ family.base + sign

pub used_cell : (fs : Families) → T (is_sorted order fs) → (i : ℕ) → is_used fs i ≡ true → IsCell fs i
used_cell fs h i e =
    let found = any_found fs h (λ f. list_any (nat_eq i) (cells_of f)) (sym (any_flat (nat_eq i) (λ e. cells_of e.1) fs) ∙ e) in
    let cell = cell_sign found.1 found.1.signs i found.3 in
    record { prefix = found.0; family = found.1; sign = cell.0; at = found.2; has = cell.1; is = cell.2 }

pub cell_used : (fs : Families) (p : List ℕ) (f : Family) (x : ℕ) → family_at fs p ≡ Some f → list_any (nat_eq x) f.signs ≡ true → is_used fs (f.base + x) ≡ true
cell_used fs p f x at has =
    any_flat (nat_eq (f.base + x)) (λ e. cells_of e.1) fs
    ∙ found_any fs (λ g. list_any (nat_eq (f.base + x)) (cells_of g)) p f at (sign_cell f f.signs x has)

pub base_had : (fs : Families) → T (is_sorted order fs) → (b : ℕ) → is_base fs b ≡ true → (p : List ℕ) × (f : Family) × (family_at fs p ≡ Some f) × (b ≡ f.base)
base_had fs h b e =
    let found = any_found fs h (λ f. nat_eq b f.base) e in (found.0, found.1, found.2, eqb-true b found.1.base found.3)

pub had_base : (fs : Families) (p : List ℕ) (f : Family) → family_at fs p ≡ Some f → is_base fs f.base ≡ true
had_base fs p f at = found_any fs (λ g. nat_eq f.base g.base) p f at (eq-eqb f.base f.base refl)

-- no number of a list is past a bound
fold_max_le : (xs : List ℕ) (a t : ℕ) → a ≤ t → ((i : ℕ) → list_any (nat_eq i) xs ≡ true → i ≤ t) → fold max a xs ≤ t
fold_max_le [] a t le h = le
fold_max_le (x ∷ xs) a t le h =
    let here : x ≤ t = h x (or_left (nat_eq x x) (list_any (nat_eq x) xs) (eq-eqb x x refl)) in
    fold_max_le xs (max a x) t (omega arith) (λ i e. h i (or_right (nat_eq i x) (list_any (nat_eq i) xs) e))

-- the top is the greatest used cell, or 0
pub top_is : (fs : Families) (t : ℕ) → ((i : ℕ) → is_used fs i ≡ true → i ≤ t) → (0 < t → is_used fs t ≡ true) → t ≡ top fs
top_is fs t most used =
    let le = fold_max_le (used_cells fs) 0 t (omega arith) most in
    elim (cases_eq t 0) [
      | inl z ↦ omega arith
      | inr n ↦ let ge = used_le_top fs t (used (omega arith)) in omega arith
    ]

-- how many cells a family has
abbrev pub size_of : Option Family → ℕ
size_of None = 0
size_of (Some f) = length f.signs

taken_cons : (e : List ℕ × Family) (es : Families) → taken_count (e ∷ es) ≡ length e.1.signs + taken_count es
taken_cons e es = length-append (cells_of e.1) (used_cells es) ∙ ap (λ n. n + taken_count es) (length-map e.1.signs (λ s. e.1.base + s))

pub taken_put : (p : List ℕ) (f : Family) (fs : Families) → T (is_sorted order fs) → taken_count (put order p f fs) + size_of (family_at fs p) ≡ taken_count fs + length f.signs
taken_put p f [] h = omega (arith, taken_cons (p, f) [])
taken_put p f (e ∷ es) h =
    elim (order p e.0) as (λ o. order p e.0 ≡ o → taken_count (by_order o ((p, f) ∷ e ∷ es) ((e.0, f) ∷ es) (e ∷ put order p f es)) + size_of (cond (is_eq o) (Some e.1) (find order p es))
    ≡ taken_count (e ∷ es) + length f.signs) [
      | Less ↦ λ is.
          let none : find order p es ≡ None = find_below p es (below_less p e.0 es is (head_below e es h)) in
          omega (arith, taken_cons (p, f) (e ∷ es), ap size_of none)
      | Equal ↦ λ is. omega (arith, taken_cons (e.0, f) es, taken_cons e es)
      | Greater ↦ λ is. omega (arith, taken_cons e (put order p f es), taken_cons e es, taken_put p f es (tail_sorted e es h))
    ] refl

-- the cells left when a family is taken away
pub taken_without : (p : List ℕ) (fs : Families) → T (is_sorted order fs) → taken_count (without_family fs p) + size_of (family_at fs p) ≡ taken_count fs
taken_without p [] h = refl
taken_without p (e ∷ es) h = elim (equal_or_not p e.0) [
  | inl same ↦
      let none : find order p es ≡ None = ap (λ q. find order q es) same.0 ∙ find_below e.0 es (head_below e es h) in
      let here : without_family (e ∷ es) p ≡ without_family es p = ap (λ b. cond (not b) (e ∷ without_family es p) (without_family es p)) same.1 in
      let found : family_at (e ∷ es) p ≡ Some e.1 = ap (λ b. cond b (Some e.1) (find order p es)) same.1 in
      omega (arith, ap taken_count here, ap size_of found, ap size_of none, taken_cons e es, taken_without p es (tail_sorted e es h))
  | inr other ↦
      let here : without_family (e ∷ es) p ≡ e ∷ without_family es p = ap (λ b. cond (not b) (e ∷ without_family es p) (without_family es p)) other.1 in
      let found : family_at (e ∷ es) p ≡ find order p es = ap (λ b. cond b (Some e.1) (find order p es)) other.1 in
      omega (arith, ap taken_count here, ap size_of found, taken_cons e es, taken_cons e (without_family es p), taken_without p es (tail_sorted e es h))
]

-- the least of some numbers that passes a test
first_among : (test : ℕ → Bool) (more from b : ℕ) → from ≤ b → b ≤ from + more → test b ≡ true → ((k : ℕ) → from ≤ k → k < b → test k ≡ false)
    → unwrap_or (find_that test (range_with_len from (suc more))) 0 ≡ b
first_among test zero from b le within passes before =
    let same : from ≡ b = omega arith in
    find_first test from [] (ap test same ∙ passes) ∙ same
first_among test (suc more) from b le within passes before =
    elim (cases_Bool (test from)) [
      | inl passed ↦
          let same : from ≡ b = elim (cases_eq from b) [
            | inl e ↦ e
            | inr n ↦ absurd (both_ways (test from) (before from (omega arith) (omega arith)) passed)
          ] in
          find_first test from (range_with_len (from + 1) (suc more)) passed ∙ same
      | inr failed ↦
          let later : from + 1 ≤ b = elim (cases_eq from b) [
            | inl e ↦ absurd (both_ways (test b) (ap test (sym e) ∙ failed) passes)
            | inr n ↦ omega arith
          ] in
          find_later test from (range_with_len (from + 1) (suc more)) failed ∙ first_among test more (from + 1) b later (omega arith) passes (λ k l lt. before k (omega arith) lt)
    ]

pub first_is : (test : ℕ → Bool) (more from b : ℕ) → from ≤ b → b ≤ from + more → test b ≡ true → ((k : ℕ) → from ≤ k → k < b → test k ≡ false)
    → unwrap_or (find_that test (range_with_len from (more + 1))) 0 ≡ b
first_is test more from b le within passes before =
    let one : more + 1 ≡ suc more = omega arith in
    ap (λ k. unwrap_or (find_that test (range_with_len from k)) 0) one ∙ first_among test more from b le within passes before

-- the cell of a string that has a last sign
pub cell_after_last : (fs : Families) (a p : List ℕ) (x : ℕ) → cell_after fs a (p ++ x ∷ []) ≡ cell_in fs (a ++ p) x
cell_after_last fs a [] x = ap (λ q. cell_in fs q x) (sym (append-nil a))
cell_after_last fs a (y ∷ []) x = refl
cell_after_last fs a (y ∷ z ∷ p) x = cell_after_last fs (a ++ y ∷ []) (z ∷ p) x ∙ ap (λ q. cell_in fs q x) (append_assoc a (y ∷ []) (z ∷ p))

pub cell_of_last : (fs : Families) (p : List ℕ) (x : ℕ) → cell_of fs (p ++ x ∷ []) ≡ cell_in fs p x
cell_of_last fs p x = cell_after_last fs [] p x
