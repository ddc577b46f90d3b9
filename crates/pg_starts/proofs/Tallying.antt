-- The counts of windows whose sums stand by number.
use Rattle.std.proofs.Common.{◌≡◌, ℕ, zero, suc, ◌+◌, ◌<◌, Bool, true, cond, T, List, [], ◌∷◌, length, map, set, get_or, replicate, slice_get, Option, Some, None, refl, sym, ap, subst, ◌∙◌, arith}
use Rattle.std.specs.Option.{unwrap_or}
use Rattle.std.specs.Ordering.{is_eq, is_lt, nat_cmp, ordering_reverse}
use Rattle.std.specs.declared.cmp.Ordering.{Ordering}
use Rattle.std.specs.declared.cmp.Ordering.TheVariants.{Less, Greater}
use Rattle.std.specs.Cmp.{tied_itself}
use Rattle.std.specs.Cmp.Lexicographic.{slice_cmp, nat_list_cmp_total}
use Rattle.std.specs.FinMap.Entries.{put, find, is_sorted, below_all, by_order}
use Rattle.pg_types.proofs.BoolFacts.{less_is, and_first, and_second, holds}
use Rattle.std.proofs.lemmas.Bool.{and_from}
use Rattle.pg_types.specs.Inside.counting.Counts.{Counts, sums_of, with_count, with_weight}
use Rattle.pg_types.specs.Inside.counting.NumberedWindows.{Windows, AreInOrder}
use Rattle.pg_starts.specs.Inside.CountsByNumber.{Tallied, IsRising, counts_by, counted_from, told_by}

abbrev cmp : List ℕ → List ℕ → Ordering
cmp = slice_cmp nat_cmp

abbrev Entry : Type 0
Entry = List ℕ × (ℕ × ℕ)

-- a window below all others is below all that are counted
below : (w : List ℕ) (ws : Windows) (ts : Tallied) → ((k : ℕ) (u : List ℕ) → slice_get ws k ≡ Some u → cmp w u ≡ Less) → below_all cmp w (counts_by ws ts) ≡ true
below w [] ts less = refl
below w (x ∷ ws) [] less = refl
below w (x ∷ ws) (None ∷ ts) less = below w ws ts (λ k u at. less (suc k) u at)
below w (x ∷ ws) (Some s ∷ ts) less = and_from _ _ (ap is_lt (less 0 x refl)) (below w ws ts (λ k u at. less (suc k) u at))

sorted_true : (ws : Windows) (ts : Tallied) → IsRising ws → is_sorted cmp (counts_by ws ts) ≡ true
sorted_true [] ts rising = refl
sorted_true (w ∷ ws) [] rising = refl
sorted_true (w ∷ ws) (None ∷ ts) rising = sorted_true ws ts rising.1
sorted_true (w ∷ ws) (Some s ∷ ts) rising = and_from _ _ (below w ws ts rising.0) (sorted_true ws ts rising.1)

pub counts_sorted : (ws : Windows) (ts : Tallied) → IsRising ws → T (is_sorted cmp (counts_by ws ts))
counts_sorted ws ts rising = holds _ (sorted_true ws ts rising)

put_front : (u : List ℕ) (s : ℕ × ℕ) (es : Counts) → below_all cmp u es ≡ true → put cmp u s es ≡ (u, s) ∷ es
put_front u s [] is = refl
put_front u s (e ∷ es) is = ap (λ o. by_order o ((u, s) ∷ e ∷ es) ((e.0, s) ∷ es) (e ∷ put cmp u s es)) (less_is _ (and_first _ _ is))

find_none : (u : List ℕ) (es : Counts) → below_all cmp u es ≡ true → find cmp u es ≡ None
find_none u [] is = refl
find_none u (e ∷ es) is = ap (λ o. cond (is_eq o) (Some e.1) (find cmp u es)) (less_is _ (and_first _ _ is)) ∙ find_none u es (and_second _ _ is)

module _ (u : List ℕ) where
  above : (w : List ℕ) → cmp w u ≡ Less → cmp u w ≡ Greater
  above w less = nat_list_cmp_total.antisymm u w ∙ ap ordering_reverse less

  same_of : (w : List ℕ) → Some w ≡ Some u → w ≡ u
  same_of w is = cc

  -- what is found at the window with a number
  pub find_there : (n : ℕ) (ws : Windows) (ts : Tallied) → IsRising ws → slice_get ws n ≡ Some u → find cmp u (counts_by ws ts) ≡ get_or ts n None
  find_there n [] ts rising at = absurd (let none : None ≡ Some u = at in cc)
  find_there zero (w ∷ ws) [] rising at = refl
  find_there (suc n) (w ∷ ws) [] rising at = refl
  find_there zero (w ∷ ws) (None ∷ ts) rising at =
      let same : w ≡ u = same_of w at in
      find_none u (counts_by ws ts) (subst (λ v. below_all cmp v (counts_by ws ts) ≡ true) same (below w ws ts rising.0))
  find_there zero (w ∷ ws) (Some s ∷ ts) rising at =
      let same : w ≡ u = same_of w at in
      ap (λ o. cond (is_eq o) (Some s) (find cmp u (counts_by ws ts))) (ap (cmp u) same ∙ tied_itself nat_list_cmp_total u)
  find_there (suc n) (w ∷ ws) (None ∷ ts) rising at = find_there n ws ts rising.1 at
  find_there (suc n) (w ∷ ws) (Some s ∷ ts) rising at =
      ap (λ o. cond (is_eq o) (Some s) (find cmp u (counts_by ws ts))) (above w (rising.0 n u at)) ∙ find_there n ws ts rising.1 at

  -- the sums of the window with a number are written
  pub put_there : (s : ℕ × ℕ) (n : ℕ) (ws : Windows) (ts : Tallied) → IsRising ws → length ts ≡ length ws → slice_get ws n ≡ Some u
      → counts_by ws (set ts n (Some s)) ≡ put cmp u s (counts_by ws ts)
  put_there s n [] ts rising size at = absurd (let none : None ≡ Some u = at in cc)
  put_there s n (w ∷ ws) [] rising size at = absurd (omega arith)
  put_there s zero (w ∷ ws) (None ∷ ts) rising size at =
      let same : w ≡ u = same_of w at in
      ap (λ (v : List ℕ). let e : Entry = (v, s) in e ∷ counts_by ws ts) same
      ∙ sym (put_front u s (counts_by ws ts) (subst (λ v. below_all cmp v (counts_by ws ts) ≡ true) same (below w ws ts rising.0)))
  put_there s zero (w ∷ ws) (Some t ∷ ts) rising size at =
      let same : w ≡ u = same_of w at in
      sym (ap (λ o. by_order o ((u, s) ∷ (w, t) ∷ counts_by ws ts) ((w, s) ∷ counts_by ws ts) ((w, t) ∷ put cmp u s (counts_by ws ts)))
      (ap (cmp u) same ∙ tied_itself nat_list_cmp_total u))
  put_there s (suc n) (w ∷ ws) (None ∷ ts) rising size at = put_there s n ws ts rising.1 (omega arith) at
  put_there s (suc n) (w ∷ ws) (Some t ∷ ts) rising size at =
      ap (λ (es : Counts). let e : Entry = (w, t) in e ∷ es) (put_there s n ws ts rising.1 (omega arith) at)
      ∙ sym (ap (λ o. by_order o ((u, s) ∷ (w, t) ∷ counts_by ws ts) ((w, s) ∷ counts_by ws ts) ((w, t) ∷ put cmp u s (counts_by ws ts))) (above w (rising.0 n u at)))

  -- one weight more
  pub counted_there : (n : ℕ) (ws : Windows) (ts : Tallied) (good : Bool) (weight : ℕ) → IsRising ws → length ts ≡ length ws → slice_get ws n ≡ Some u
      → counts_by ws (set ts n (Some (with_weight (unwrap_or (get_or ts n None) (0, 0)) good weight))) ≡ with_count (counts_by ws ts) u good weight
  counted_there n ws ts good weight rising size at =
      put_there (with_weight (unwrap_or (get_or ts n None) (0, 0)) good weight) n ws ts rising size at
      ∙ ap (λ (o : Option (ℕ × ℕ)). put cmp u (with_weight (unwrap_or o (0, 0)) good weight) (counts_by ws ts)) (sym (find_there n ws ts rising at))

  pub sums_there : (n : ℕ) (ws : Windows) (ts : Tallied) → IsRising ws → slice_get ws n ≡ Some u → unwrap_or (get_or ts n None) (0, 0) ≡ sums_of (counts_by ws ts) u
  sums_there n ws ts rising at = ap (λ (o : Option (ℕ × ℕ)). unwrap_or o (0, 0)) (sym (find_there n ws ts rising at))

-- where none was counted
pub none_counted : (ws : Windows) (n : ℕ) → counts_by ws (replicate n None) ≡ []
none_counted [] n = refl
none_counted (w ∷ ws) zero = refl
none_counted (w ∷ ws) (suc n) = none_counted ws n

pub none_at : (n k : ℕ) → get_or (let ts : Tallied = replicate n None in ts) k None ≡ None
none_at zero k = refl
none_at (suc n) zero = refl
none_at (suc n) (suc k) = none_at n k

-- numbers that are all 0 tell of no sums
pub none_told : (n : ℕ) → map told_by (let ks : List (ℕ × ℕ) = replicate n (0, 0) in ks) ≡ replicate n None
none_told zero = refl
none_told (suc n) = ap (λ (ts : Tallied). None ∷ ts) (none_told n)

-- the numbers that were counted are in the order of signs
pub in_order : (all : Windows) (k : ℕ) (ws : Windows) (ts : Tallied) → ((j : ℕ) → slice_get ws j ≡ slice_get all (k + j)) → length ts ≡ length ws
    → AreInOrder all (counts_by ws ts) (counted_from k ts)
in_order all k [] [] same size = refl
in_order all k [] (t ∷ ts) same size = absurd (omega arith)
in_order all k (w ∷ ws) [] same size = absurd (omega arith)
in_order all k (w ∷ ws) (None ∷ ts) same size = in_order all (k + 1) ws ts (λ j. same (suc j) ∙ ap (slice_get all) (let z : k + suc j ≡ k + 1 + j = omega arith in z)) (omega arith)
in_order all k (w ∷ ws) (Some s ∷ ts) same size =
    let here : slice_get all k ≡ Some w = ap (slice_get all) (let z : k ≡ k + 0 = omega arith in z) ∙ sym (same 0) in
    (λ i. here i ∷ in_order all (k + 1) ws ts (λ j. same (suc j) ∙ ap (slice_get all) (let z : k + suc j ≡ k + 1 + j = omega arith in z)) (omega arith) i)

-- windows that stand in the order of signs by their places
pub rising_from : (ws : Windows) → ((p q : ℕ) (u v : List ℕ) → p < q → slice_get ws p ≡ Some u → slice_get ws q ≡ Some v → cmp u v ≡ Less) → IsRising ws
rising_from [] less = tt
rising_from (w ∷ ws) less = (
  (λ k u at. less 0 (suc k) w u (omega arith) refl at),
  rising_from ws (λ p q u v before x y. less (suc p) (suc q) u v (omega arith) x y),
)
