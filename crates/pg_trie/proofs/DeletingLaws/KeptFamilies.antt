-- Families with the strings that pass a test.
use Rattle.std.proofs.Common.{◌≡◌, ◌≢◌, ℕ, ◌+◌, Bool, true, false, not, cond, ◌&&◌, ◌||◌, nat_eq, T, List, [], ◌∷◌, ◌++◌, filter, Option, None, Some, inl, inr, refl, sym, ◌∙◌, ap, subst}
use Rattle.std.proofs.lemmas.Bool.{cases_Bool, eqb-true, eq-eqb, and_from}
use Rattle.std.proofs.lemmas.Cmp.{nat_list_cmp_total}
use Rattle.std.specs.Ordering.{is_eq, is_lt}
use Rattle.std.specs.Cmp.{tied_itself}
use Rattle.std.specs.FinMap.Entries.{find, put, is_sorted, below_all}
use Rattle.std.specs.List.{flat_map, list_any}
use Rattle.pg_types.specs.Placement.{Family, Families, family_at}
use Rattle.pg_types.specs.Inside.PlacementSteps.{without_family, kept_family}
use Rattle.pg_types.specs.Inside.Placing.{cell_of, without_sign}
use Rattle.pg_types.proofs.BoolFacts.{first_half, second_half, is_true, holds}
use Rattle.pg_cells.specs.Inside.linked.ValuedFamilies.{ValuedFamilies}
use Rattle.pg_cells.specs.Inside.linked.AreValuedFamilies.{AreValuedFamilies}
use Rattle.pg_cells.proofs.StringMaps.{order, equal_or_not, same_maps, find_below, head_below, tail_sorted, find_put_same, find_put_other, find_without_same, find_without_other}
use Rattle.pg_cells.proofs.StringCells.{parts_cell, parts_none}

-- a family with those signs, or none
abbrev pub with_signs : ℕ → List ℕ → Option Family
with_signs base [] = None
with_signs base (x ∷ xs) = Some (record { base = base; signs = x ∷ xs })

abbrev pub kept_option : (List ℕ → Bool) → List ℕ → Option Family → Option Family
kept_option keep p None = None
kept_option keep p (Some f) = with_signs f.base (filter (λ s. keep (p ++ s ∷ [])) f.signs)

-- an entry with those signs, or none, before others
abbrev with_one : List ℕ → ℕ → List ℕ → Families → Families
with_one p base [] rest = rest
with_one p base (x ∷ xs) rest = (p, record { base = base; signs = x ∷ xs }) ∷ rest

one_first : (keep : List ℕ → Bool) (e : List ℕ × Family) (rest : Families) → kept_family keep e ++ rest ≡ with_one e.0 e.1.base (filter (λ s. keep (e.0 ++ s ∷ [])) e.1.signs) rest
one_first keep e rest = by (filter (λ s. keep (e.0 ++ s ∷ [])) e.1.signs)
  where
    by : (l : List ℕ) → (elim l as (λ _. Families) [ [] ↦ [] | x ∷ xs ↦ (e.0, record { base = e.1.base; signs = x ∷ xs }) ∷ [] ]) ++ rest ≡ with_one e.0 e.1.base l rest
    by [] = refl
    by (x ∷ xs) = refl

find_one_same : (p : List ℕ) (base : ℕ) (l : List ℕ) (rest : Families) → find order p rest ≡ None → find order p (with_one p base l rest) ≡ with_signs base l
find_one_same p base [] rest none = none
find_one_same p base (x ∷ xs) rest none = ap (λ r. cond (is_eq r) (Some (record { base = base; signs = x ∷ xs })) (find order p rest)) (tied_itself nat_list_cmp_total p)

find_one_other : (q p : List ℕ) (base : ℕ) (l : List ℕ) (rest : Families) → q ≢ p → find order q (with_one p base l rest) ≡ find order q rest
find_one_other q p base [] rest n = refl
find_one_other q p base (x ∷ xs) rest n = elim (equal_or_not q p) [ inl h ↦ absurd (n h.0) | inr h ↦ ap (λ b. cond b (Some (record { base = base; signs = x ∷ xs })) (find order q rest)) h.1 ]

below_one : (q p : List ℕ) (base : ℕ) (l : List ℕ) (rest : Families) → T (is_lt (order q p)) → T (below_all order q rest) → T (below_all order q (with_one p base l rest))
below_one q p base [] rest lt below = below
below_one q p base (x ∷ xs) rest lt below = holds (is_lt (order q p) && below_all order q rest)
    (and_from (is_lt (order q p)) (below_all order q rest) (is_true (is_lt (order q p)) lt) (is_true (below_all order q rest) below))

below_kept : (keep : List ℕ → Bool) (q : List ℕ) (fs : Families) → T (below_all order q fs) → T (below_all order q (flat_map (kept_family keep) fs))
below_kept keep q [] below = tt
below_kept keep q (e ∷ es) below =
    let rest = below_kept keep q es (second_half (is_lt (order q e.0)) (below_all order q es) below) in
    subst (λ l. T (below_all order q l)) (sym (one_first keep e (flat_map (kept_family keep) es)))
    (below_one q e.0 e.1.base (filter (λ s. keep (e.0 ++ s ∷ [])) e.1.signs) (flat_map (kept_family keep) es) (first_half (is_lt (order q e.0)) (below_all order q es) below) rest)

sorted_one : (p : List ℕ) (base : ℕ) (l : List ℕ) (rest : Families) → T (below_all order p rest) → T (is_sorted order rest) → T (is_sorted order (with_one p base l rest))
sorted_one p base [] rest below sorted = sorted
sorted_one p base (x ∷ xs) rest below sorted = holds (below_all order p rest && is_sorted order rest)
    (and_from (below_all order p rest) (is_sorted order rest) (is_true (below_all order p rest) below) (is_true (is_sorted order rest) sorted))

pub sorted_kept : (keep : List ℕ → Bool) (fs : Families) → T (is_sorted order fs) → T (is_sorted order (flat_map (kept_family keep) fs))
sorted_kept keep [] sorted = tt
sorted_kept keep (e ∷ es) sorted =
    subst (λ l. T (is_sorted order l)) (sym (one_first keep e (flat_map (kept_family keep) es)))
    (sorted_one e.0 e.1.base (filter (λ s. keep (e.0 ++ s ∷ [])) e.1.signs) (flat_map (kept_family keep) es)
    (below_kept keep e.0 es (head_below e es sorted)) (sorted_kept keep es (tail_sorted e es sorted)))

-- the family with a prefix, of those that are kept
pub kept_at : (keep : List ℕ → Bool) (fs : Families) (p : List ℕ) → T (is_sorted order fs) → family_at (flat_map (kept_family keep) fs) p ≡ kept_option keep p (family_at fs p)
kept_at keep [] p sorted = refl
kept_at keep (e ∷ es) p sorted =
    let more = kept_at keep es p (tail_sorted e es sorted) in
    ap (find order p) (one_first keep e (flat_map (kept_family keep) es))
    ∙ elim (equal_or_not p e.0) [
      | inl h ↦
          let none : find order p (flat_map (kept_family keep) es) ≡ None =
          ap (λ q. find order q (flat_map (kept_family keep) es)) h.0 ∙ find_below e.0 (flat_map (kept_family keep) es) (below_kept keep e.0 es (head_below e es sorted)) in
          ap (λ q. find order p (with_one q e.1.base (filter (λ s. keep (q ++ s ∷ [])) e.1.signs) (flat_map (kept_family keep) es))) (sym h.0)
          ∙ find_one_same p e.1.base (filter (λ s. keep (p ++ s ∷ [])) e.1.signs) (flat_map (kept_family keep) es) none
          ∙ sym (ap (λ b. kept_option keep p (cond b (Some e.1) (find order p es))) h.1)
      | inr h ↦
          find_one_other p e.0 e.1.base (filter (λ s. keep (e.0 ++ s ∷ [])) e.1.signs) (flat_map (kept_family keep) es) h.0
          ∙ more
          ∙ sym (ap (λ b. kept_option keep p (cond b (Some e.1) (find order p es))) h.1)
    ]

-- tests that agree on the signs of a list keep the same
same_filter : (t u : ℕ → Bool) (xs : List ℕ) → ((s : ℕ) → list_any (nat_eq s) xs ≡ true → t s ≡ u s) → filter t xs ≡ filter u xs
same_filter t u [] same = refl
same_filter t u (x ∷ xs) same =
    ap (λ b. cond b (x ∷ filter t xs) (filter t xs)) (same x (ap (λ b. b || list_any (nat_eq x) xs) (eq-eqb x x refl)))
    ∙ ap (λ l. cond (u x) (x ∷ l) l) (same_filter t u xs (λ s has. same s (later s has)))
  where
    later : (s : ℕ) → list_any (nat_eq s) xs ≡ true → list_any (nat_eq s) (x ∷ xs) ≡ true
    later s has = elim (cases_Bool (nat_eq s x)) [ inl e ↦ ap (λ b. b || list_any (nat_eq s) xs) e | inr e ↦ ap (λ b. b || list_any (nat_eq s) xs) e ∙ has ]

-- tests that agree on the strings with a cell keep the same families
pub kept_same : (t u : List ℕ → Bool) (fs : Families) → T (is_sorted order fs) → ((q : List ℕ) (cell : ℕ) → cell_of fs q ≡ Some cell → t q ≡ u q)
    → flat_map (kept_family t) fs ≡ flat_map (kept_family u) fs
kept_same t u fs sorted same =
    same_maps (flat_map (kept_family t) fs) (flat_map (kept_family u) fs) (sorted_kept t fs sorted) (sorted_kept u fs sorted)
    (λ p. kept_at t fs p sorted ∙ by p (family_at fs p) refl ∙ sym (kept_at u fs p sorted))
  where
    by : (p : List ℕ) (o : Option Family) → family_at fs p ≡ o → kept_option t p o ≡ kept_option u p o
    by p None at = refl
    by p (Some f) at = ap (with_signs f.base) (same_filter (λ s. t (p ++ s ∷ [])) (λ s. u (p ++ s ∷ [])) f.signs (λ s has. same (p ++ s ∷ []) (f.base + s) (parts_cell fs p s f at has)))

all_kept : (t : ℕ → Bool) (xs : List ℕ) → ((s : ℕ) → list_any (nat_eq s) xs ≡ true → t s ≡ true) → filter t xs ≡ xs
all_kept t xs all = same_filter t (λ _. true) xs all ∙ whole xs
  where
    whole : (xs : List ℕ) → filter (λ _. true) xs ≡ xs
    whole [] = refl
    whole (x ∷ xs) = ap (λ l. x ∷ l) (whole xs)

-- where each string with a cell passes, the families stay
pub kept_all : (t : List ℕ → Bool) (h : ValuedFamilies ℕ) → AreValuedFamilies h → ((q : List ℕ) (cell : ℕ) → cell_of h.families q ≡ Some cell → t q ≡ true)
    → flat_map (kept_family t) h.families ≡ h.families
kept_all t h held all =
    same_maps (flat_map (kept_family t) h.families) h.families (sorted_kept t h.families held.sorted) held.sorted (λ p. kept_at t h.families p held.sorted ∙ by p (family_at h.families p) refl)
  where
    some_signs : (p : List ℕ) (f : Family) → family_at h.families p ≡ Some f → (l : List ℕ) → f.signs ≡ l → with_signs f.base l ≡ Some f
    some_signs p f at (x ∷ xs) is = λ i. Some (record { base = f.base; signs = sym is i })
    some_signs p f at [] is =
        let b = held.filled p f.base (ap (λ (o : Option Family). elim o as (λ _. Option ℕ) [ None ↦ None | Some g ↦ Some g.base ]) at) in
        absurd (no_signs p b.0 f at is b.1 b.2)
      where
        no_signs : (p : List ℕ) (x : ℕ) (f : Family) → family_at h.families p ≡ Some f → f.signs ≡ [] → (cell : ℕ) → cell_of h.families (p ++ x ∷ []) ≡ Some cell → ⊥
        no_signs p x f at is cell there =
            let none : cell_of h.families (p ++ x ∷ []) ≡ None = parts_none h.families p x f at (ap (list_any (nat_eq x)) is) in
            let no : None ≡ Some cell = sym none ∙ there in
            (cc)

    by : (p : List ℕ) (o : Option Family) → family_at h.families p ≡ o → kept_option t p o ≡ o
    by p None at = refl
    by p (Some f) at = ap (with_signs f.base) (all_kept (λ s. t (p ++ s ∷ [])) f.signs (λ s has. all (p ++ s ∷ []) (f.base + s) (parts_cell h.families p s f at has))) ∙ some_signs p f at f.signs refl

-- two strings of one more sign are equal where their parts are
last_same : (p q : List ℕ) (x y : ℕ) → p ++ x ∷ [] ≡ q ++ y ∷ [] → (p ≡ q) × (x ≡ y)
last_same [] [] x y e = (refl, cc)
last_same [] (b ∷ q) x y e = absurd (no_end q y (let t : [] ≡ q ++ y ∷ [] = cc in t))
  where
    no_end : (q : List ℕ) (y : ℕ) → [] ≡ q ++ y ∷ [] → ⊥
    no_end [] y e = cc
    no_end (c ∷ q) y e = cc
last_same (a ∷ p) [] x y e = absurd (no_end p x (let t : p ++ x ∷ [] ≡ [] = cc in t))
  where
    no_end : (q : List ℕ) (y : ℕ) → q ++ y ∷ [] ≡ [] → ⊥
    no_end [] y e = cc
    no_end (c ∷ q) y e = cc
last_same (a ∷ p) (b ∷ q) x y e =
    let tails : p ++ x ∷ [] ≡ q ++ y ∷ [] = cc in
    let heads : a ≡ b = cc in
    let rest = last_same p q x y tails in
    ((λ i. heads i ∷ rest.0 i), rest.1)

-- what is left of a list without one sign, and then of a test
filter_without : (s : ℕ) (t u : ℕ → Bool) (xs : List ℕ) → ((x : ℕ) → x ≢ s → u x ≡ t x) → u s ≡ false → filter (λ x. not (nat_eq s x)) (filter t xs) ≡ filter u xs
filter_without s t u [] same none = refl
filter_without s t u (x ∷ xs) same none =
    let more = filter_without s t u xs same none in
    elim (cases_Bool (nat_eq s x)) [
      | inl e ↦
          let is : x ≡ s = sym (eqb-true s x e) in
          elim (t x) as (λ b. filter (λ x. not (nat_eq s x)) (cond b (x ∷ filter t xs) (filter t xs)) ≡ filter u xs) [
            | true ↦ ap (λ b. cond (not b) (x ∷ filter (λ x. not (nat_eq s x)) (filter t xs)) (filter (λ x. not (nat_eq s x)) (filter t xs))) e ∙ more
            | false ↦ more
          ]
          ∙ sym (ap (λ b. cond b (x ∷ filter u xs) (filter u xs)) (ap u is ∙ none))
      | inr e ↦
          let other : x ≢ s = λ z. (let yes : nat_eq s x ≡ true = eq-eqb s x (sym z) in let no : true ≡ false = sym yes ∙ e in cc) in
          elim (t x) as (λ b. t x ≡ b → filter (λ x. not (nat_eq s x)) (cond b (x ∷ filter t xs) (filter t xs)) ≡ cond (u x) (x ∷ filter u xs) (filter u xs)) [
            | true ↦ λ d.
                ap (λ b. cond (not b) (x ∷ filter (λ x. not (nat_eq s x)) (filter t xs)) (filter (λ x. not (nat_eq s x)) (filter t xs))) e
                ∙ ap (λ l. x ∷ l) more
                ∙ sym (ap (λ b. cond b (x ∷ filter u xs) (filter u xs)) (same x other ∙ d))
            | false ↦ λ d. more ∙ sym (ap (λ b. cond b (x ∷ filter u xs) (filter u xs)) (same x other ∙ d))
          ] refl
    ]

-- a sign taken away from what is kept: the family at its prefix, and the others
abbrev left_of : ℕ → Option Family → Option Family
left_of s None = None
left_of s (Some f) = with_signs f.base (filter (λ x. not (nat_eq s x)) f.signs)

left_at : (fs : Families) (p : List ℕ) (s : ℕ) → family_at (without_sign fs p s) p ≡ left_of s (family_at fs p)
unfolding without_sign
left_at fs p s = by (family_at fs p) refl
  where
    by : (o : Option Family) → family_at fs p ≡ o
        → family_at (elim o as (λ _. Families) [
          | None ↦ fs
          | Some f ↦ elim
              (filter (λ x. not (nat_eq s x)) f.signs) [ [] ↦ without_family fs p | x ∷ xs ↦ put order p (record { base = f.base; signs = x ∷ xs }) fs ]
        ]) p ≡ left_of s o
    by None at = at
    by (Some f) at = signs f (filter (λ x. not (nat_eq s x)) f.signs)
      where
        signs : (f : Family) (l : List ℕ) → family_at (elim l as (λ _. Families) [ [] ↦ without_family fs p | x ∷ xs ↦ put order p (record { base = f.base; signs = x ∷ xs }) fs ]) p
            ≡ with_signs f.base l
        signs f [] = find_without_same p fs
        signs f (x ∷ xs) = find_put_same p (record { base = f.base; signs = x ∷ xs }) fs

left_other : (fs : Families) (p q : List ℕ) (s : ℕ) → q ≢ p → family_at (without_sign fs p s) q ≡ family_at fs q
unfolding without_sign
left_other fs p q s n = by (family_at fs p)
  where
    by : (o : Option Family)
        → family_at (elim o as (λ _. Families) [
          | None ↦ fs
          | Some f ↦ elim
              (filter (λ x. not (nat_eq s x)) f.signs) [ [] ↦ without_family fs p | x ∷ xs ↦ put order p (record { base = f.base; signs = x ∷ xs }) fs ]
        ]) q ≡ family_at fs q
    by None = refl
    by (Some f) = signs f (filter (λ x. not (nat_eq s x)) f.signs)
      where
        signs : (f : Family) (l : List ℕ) → family_at (elim l as (λ _. Families) [ [] ↦ without_family fs p | x ∷ xs ↦ put order p (record { base = f.base; signs = x ∷ xs }) fs ]) q ≡ family_at fs q
        signs f [] = find_without_other q p fs n
        signs f (x ∷ xs) = find_put_other q p (record { base = f.base; signs = x ∷ xs }) fs n

-- a string taken away from what is kept
pub kept_less : (t u : List ℕ → Bool) (fs : Families) (p : List ℕ) (s : ℕ) → T (is_sorted order fs) → T (is_sorted order (without_sign (flat_map (kept_family t) fs) p s))
    → ((q : List ℕ) → q ≢ p ++ s ∷ [] → u q ≡ t q) → u (p ++ s ∷ []) ≡ false → without_sign (flat_map (kept_family t) fs) p s ≡ flat_map (kept_family u) fs
kept_less t u fs p s sorted in_order same none =
    same_maps (without_sign (flat_map (kept_family t) fs) p s) (flat_map (kept_family u) fs) in_order (sorted_kept u fs sorted) (λ q. at q ∙ sym (kept_at u fs q sorted))
  where
    here : (o : Option Family) → left_of s (kept_option t p o) ≡ kept_option u p o
    here None = refl
    here (Some f) =
        twice (filter (λ x. t (p ++ x ∷ [])) f.signs)
        ∙ ap (with_signs f.base) (filter_without s (λ x. t (p ++ x ∷ [])) (λ x. u (p ++ x ∷ [])) f.signs (λ x n. same (p ++ x ∷ []) (λ e. n (last_same p p x s e).1)) none)
      where
        twice : (l : List ℕ) → left_of s (with_signs f.base l) ≡ with_signs f.base (filter (λ x. not (nat_eq s x)) l)
        twice [] = refl
        twice (x ∷ xs) = refl

    other : (q : List ℕ) → q ≢ p → (o : Option Family) → kept_option t q o ≡ kept_option u q o
    other q n None = refl
    other q n (Some f) = ap (with_signs f.base) (same_filter (λ x. t (q ++ x ∷ [])) (λ x. u (q ++ x ∷ [])) f.signs (λ x has. sym (same (q ++ x ∷ []) (λ e. n (last_same q p x s e).0))))

    at : (q : List ℕ) → family_at (without_sign (flat_map (kept_family t) fs) p s) q ≡ kept_option u q (family_at fs q)
    at q = elim (equal_or_not q p) [
      | inl h ↦
          ap (family_at (without_sign (flat_map (kept_family t) fs) p s)) h.0
          ∙ left_at (flat_map (kept_family t) fs) p s
          ∙ ap (left_of s) (kept_at t fs p sorted)
          ∙ here (family_at fs p)
          ∙ ap (λ x. kept_option u x (family_at fs x)) (sym h.0)
      | inr h ↦ left_other (flat_map (kept_family t) fs) p q s h.0 ∙ kept_at t fs q sorted ∙ other q h.0 (family_at fs q)
    ]
