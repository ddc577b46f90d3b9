-- The base of a placement is the least one from the lowest on at which the signs may stand.
use Rattle.std.proofs.Common.{◌≡◌, ℕ, ◌+◌, ◌-◌, ◌<◌, ◌≤◌, max, inl, inr, Bool, true, false, not, cond, ◌||◌, nat_eq, nat_le, List, [], ◌∷◌, length, map, fold, suc, zero, refl, sym, ◌∙◌, ap, subst, arith, Some, unwrap_or}
use Rattle.std.proofs.lemmas.Bool.{cases_Bool, cases_eq, false≢true, or_cases, or_left, or_right, and_parts, and_from, eqb-true, eq-eqb, ne_eqb, leb-true}
use Rattle.std.proofs.lemmas.List.Folds.{list_any-append}
use Rattle.std.specs.List.{find, list_any, list_all, range_with_len}
use Rattle.pg_types.specs.Placement.{Families, used_cells, top, fits_at}
use Rattle.pg_types.specs.Inside.PlacementSteps.{is_used, is_base, lowest_base, least_base}
use Rattle.pg_types.specs.declared.limits.TheConstants.{FEW_SIGNS, FAR_BELOW}
use Rattle.pg_types.specs.Inside.Placing.{IsLeast, cells_of}

-- the greatest of a list
fold_max_ge : (xs : List ℕ) (a : ℕ) → a ≤ fold max a xs
fold_max_ge [] a = omega arith
fold_max_ge (x ∷ xs) a = let rest = fold_max_ge xs (max a x) in omega arith

fold_max_has : (xs : List ℕ) (a i : ℕ) → list_any (nat_eq i) xs ≡ true → i ≤ fold max a xs
fold_max_has [] a i e = absurd (false≢true e)
fold_max_has (x ∷ xs) a i e = elim (or_cases (nat_eq i x) (list_any (nat_eq i) xs) e) [
  | inl here ↦ let is = eqb-true i x here in let rest = fold_max_ge xs (max a x) in omega arith
  | inr there ↦ fold_max_has xs (max a x) i there
]

pub used_le_top : (fs : Families) (i : ℕ) → is_used fs i ≡ true → i ≤ top fs
used_le_top fs i e = fold_max_has (used_cells fs) 0 i e

-- each family has a sign, and a sign is at least 1
abbrev pub have_signs : Families → Bool
have_signs fs = list_all (λ e. list_any (nat_le 1) e.1.signs) fs

-- a base is below the cell of a sign
base_below : (base b : ℕ) (signs : List ℕ) → list_any (nat_le 1) signs ≡ true → ((i : ℕ) → list_any (nat_eq i) (map (λ s. base + s) signs) ≡ true → i < b) → base < b
base_below base b [] some below = absurd (false≢true some)
base_below base b (s ∷ ss) some below = elim (or_cases (nat_le 1 s) (list_any (nat_le 1) ss) some) [
  | inl here ↦
      let up : 1 ≤ s = leb-true 1 s here in
      let cell = below (base + s) (or_left (nat_eq (base + s) (base + s)) (list_any (nat_eq (base + s)) (map (λ x. base + x) ss)) (eq-eqb (base + s) (base + s) refl)) in
      omega arith
  | inr there ↦ base_below base b ss there (λ i e. below i (or_right (nat_eq i (base + s)) (list_any (nat_eq i) (map (λ x. base + x) ss)) e))
]

-- no base is past the cells
no_base : (fs : Families) (b : ℕ) → have_signs fs ≡ true → ((i : ℕ) → is_used fs i ≡ true → i < b) → is_base fs b ≡ false
no_base [] b some below = refl
no_base (e ∷ es) b some below =
    let parts = and_parts (list_any (nat_le 1) e.1.signs) (have_signs es) some in
    let both = λ (i : ℕ). list_any-append (nat_eq i) (cells_of e.1) (used_cells es) in
    let here : e.1.base < b = base_below e.1.base b e.1.signs parts.0 (λ i h. below i (both i ∙ or_left (list_any (nat_eq i) (cells_of e.1)) (list_any (nat_eq i) (used_cells es)) h)) in
    let there : is_base es b ≡ false = no_base es b parts.1 (λ i h. below i (both i ∙ or_right (list_any (nat_eq i) (cells_of e.1)) (list_any (nat_eq i) (used_cells es)) h)) in
    ap (λ x. x || is_base es b) (ne_eqb b e.1.base (λ z. omega arith)) ∙ there

none_used : (fs : Families) (signs : List ℕ) (b : ℕ) → top fs < b → list_all (λ s. not (is_used fs (b + s))) signs ≡ true
none_used fs [] b past = refl
none_used fs (s ∷ ss) b past = and_from (not (is_used fs (b + s))) (list_all (λ x. not (is_used fs (b + x))) ss) (by (is_used fs (b + s)) refl) (none_used fs ss b past)
  where
    by : (u : Bool) → is_used fs (b + s) ≡ u → not (is_used fs (b + s)) ≡ true
    by false e = ap not e
    by true e = absurd (let le = used_le_top fs (b + s) e in omega arith)

-- past the top any signs may stand
past_top : (fs : Families) (signs : List ℕ) (b : ℕ) → have_signs fs ≡ true → top fs < b → fits_at fs signs b ≡ true
past_top fs signs b some past =
    and_from (not (is_base fs b)) (list_all (λ s. not (is_used fs (b + s))) signs) (ap not (no_base fs b some (λ i e. let le = used_le_top fs i e in omega arith))) (none_used fs signs b past)

-- the first of a range that meets the test
pub find_first : (test : ℕ → Bool) (from : ℕ) (xs : List ℕ) → test from ≡ true → unwrap_or (find test (from ∷ xs)) 0 ≡ from
find_first test from xs passed = ap (λ b. unwrap_or (cond b (Some from) (find test xs)) 0) passed

pub find_later : (test : ℕ → Bool) (from : ℕ) (xs : List ℕ) → test from ≡ false → unwrap_or (find test (from ∷ xs)) 0 ≡ unwrap_or (find test xs) 0
find_later test from xs failed = ap (λ b. unwrap_or (cond b (Some from) (find test xs)) 0) failed

found_here : (test : ℕ → Bool) (from : ℕ) (xs : List ℕ) → test from ≡ true → IsLeast test from (unwrap_or (find test (from ∷ xs)) 0)
found_here test from xs passed = subst (IsLeast test from) (sym (find_first test from xs passed)) (record {
  from = omega arith;
  meets = passed;
  first = λ k le lt. absurd (omega arith);
})

found_is : (test : ℕ → Bool) (more from : ℕ) → test (from + more) ≡ true → IsLeast test from (unwrap_or (find test (range_with_len from (suc more))) 0)
found_is test zero from last = let same : from ≡ from + 0 = omega arith in found_here test from [] (ap test same ∙ last)
found_is test (suc more) from last = elim (cases_Bool (test from)) [
  | inl passed ↦ found_here test from (range_with_len (from + 1) (suc more)) passed
  | inr failed ↦
      let same : from + 1 + more ≡ from + suc more = omega arith in
      let rest = found_is test more (from + 1) (ap test same ∙ last) in
      subst (IsLeast test from) (sym (find_later test from (range_with_len (from + 1) (suc more)) failed)) (record {
        from = omega (arith, rest.from);
        meets = rest.meets;
        first = λ k le lt. elim (cases_eq k from) [
          | inl e ↦ ap test e ∙ failed
          | inr other ↦ rest.first k (omega arith) lt
        ];
      })
]

-- no base below 1 is tried
lowest_up : (b : Bool) (k : ℕ) → 1 ≤ cond b 1 (max 1 k)
lowest_up true k = omega arith
lowest_up false k = omega arith

pub lowest_positive : (n count t : ℕ) → 1 ≤ lowest_base n count t
lowest_positive n count t = lowest_up (nat_le count FEW_SIGNS) (t - max FAR_BELOW n)

-- the search finds the least base, from the lowest on, that no family has and where the cells of the signs are unused
pub least_base_is : (n : ℕ) (fs : Families) (signs : List ℕ) → have_signs fs ≡ true
    → IsLeast (fits_at fs signs) (lowest_base n (length signs) (top fs)) (least_base n fs signs)
least_base_is n fs signs some =
    let low = lowest_base n (length signs) (top fs) in
    let up : 1 ≤ low = lowest_positive n (length signs) (top fs) in
    let more : top fs + 1 ≡ suc (top fs) = omega arith in
    subst (λ k. IsLeast (fits_at fs signs) low (unwrap_or (find (fits_at fs signs) (range_with_len low k)) 0)) (sym more)
    (found_is (fits_at fs signs) (top fs) low (past_top fs signs (low + top fs) some (omega arith)))
