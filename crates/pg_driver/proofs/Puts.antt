-- What one entry more does to sorted entries.
use Rattle.std.proofs.Common.{◌≡◌, ℕ, ◌+◌, ◌≤◌, Bool, true, false, cond, ◌&&◌, T, List, [], ◌∷◌, length, unwrap_or, is_some, Some, None, refl, ap, ◌∙◌, arith}
use Rattle.std.specs.declared.cmp.Ordering.{Ordering}
use Rattle.std.specs.declared.cmp.Ordering.TheVariants.{Less, Equal, Greater}
use Rattle.std.specs.Ordering.{nat_cmp, is_eq, eq_by_cmp}
use Rattle.std.specs.Cmp.Lexicographic.{slice_cmp, nat_list_cmp_total}
use Rattle.std.specs.FinMap.Entries.{put, find, is_sorted, below_all, by_order, length-put as length_put_is}
use Rattle.std.specs.List.{list_all}
use Rattle.std.proofs.lemmas.Bool.{and_parts, and_from}
use Rattle.std.proofs.lemmas.List.Sums.{sum_by-cons}
use Rattle.pg_types.proofs.BoolFacts.{is_true, less_is, first_half, second_half}
use Rattle.pg_types.specs.Inside.counting.Counts.{Counts, sums_of}
use Rattle.pg_driver.specs.Inside.counting.Counting.{weight_in}

-- the order of windows
abbrev pub cmp : List ℕ → List ℕ → Ordering
cmp = slice_cmp nat_cmp

abbrev entry_weight : List ℕ × (ℕ × ℕ) → ℕ
entry_weight e = e.1.0 + e.1.1

-- a window before the first is not found
pub none_below : {X : Type 0} (x y : List ℕ) (es : List (List ℕ × X)) → cmp x y ≡ Less → T (below_all cmp y es) → find cmp x es ≡ None
none_below x y [] less below = refl
none_below {X} x y (e ∷ es) less below =
    let here : cmp x e.0 ≡ Less = nat_list_cmp_total.trans x y e.0 less (less_is _ (is_true _ (first_half _ _ below))) in
    ap (λ r. cond (is_eq r) (Some e.1) (find cmp x es)) here ∙ none_below x y es less (second_half _ _ below)

-- the sums of one window are within those of all
pub weight_found : (u : List ℕ) (counts : Counts) → (sums_of counts u).0 + (sums_of counts u).1 ≤ weight_in counts
weight_found u [] = omega arith
weight_found u (e ∷ es) =
    let whole : weight_in (e ∷ es) ≡ entry_weight e + weight_in es = sum_by-cons entry_weight e es in
    let rest : (sums_of es u).0 + (sums_of es u).1 ≤ weight_in es = weight_found u es in
    elim (eq_by_cmp cmp u e.0) as (λ (b : Bool). (unwrap_or (cond b (Some e.1) (find cmp u es)) (0, 0)).0 + (unwrap_or (cond b (Some e.1) (find cmp u es)) (0, 0)).1 ≤ weight_in (e ∷ es)) [
      | true ↦ omega arith
      | false ↦ omega arith
    ]

-- sums that grow by n at one window
pub weight_put : (u : List ℕ) (v : ℕ × ℕ) (n : ℕ) (counts : Counts) → T (is_sorted cmp counts) → v.0 + v.1 ≡ (sums_of counts u).0 + (sums_of counts u).1 + n
    → weight_in (put cmp u v counts) ≡ weight_in counts + n
weight_put u v n [] sorted more = omega (arith, sum_by-cons entry_weight (u, v) [])
weight_put u v n (e ∷ es) sorted more =
    elim (cmp u e.0) as (λ (r : Ordering). cmp u e.0 ≡ r → weight_in (by_order r ((u, v) ∷ e ∷ es) ((e.0, v) ∷ es) (e ∷ put cmp u v es)) ≡ weight_in (e ∷ es) + n) [
      | Less ↦ λ p.
          let none : find cmp u (e ∷ es) ≡ None = ap (λ r. cond (is_eq r) (Some e.1) (find cmp u es)) p ∙ none_below u e.0 es p (first_half _ _ sorted) in
          let old : v.0 + v.1 ≡ 0 + n = rw none at more in
          omega (arith, sum_by-cons entry_weight (u, v) (e ∷ es))
      | Equal ↦ λ p.
          let found : find cmp u (e ∷ es) ≡ Some e.1 = ap (λ r. cond (is_eq r) (Some e.1) (find cmp u es)) p in
          let old : v.0 + v.1 ≡ e.1.0 + e.1.1 + n = rw found at more in
          omega (arith, sum_by-cons entry_weight (e.0, v) es, sum_by-cons entry_weight e es)
      | Greater ↦ λ p.
          let found : find cmp u (e ∷ es) ≡ find cmp u es = ap (λ r. cond (is_eq r) (Some e.1) (find cmp u es)) p in
          let old : v.0 + v.1 ≡ (sums_of es u).0 + (sums_of es u).1 + n = rw found at more in
          let rest : weight_in (put cmp u v es) ≡ weight_in es + n = weight_put u v n es (second_half _ _ sorted) old in
          omega (arith, sum_by-cons entry_weight e (put cmp u v es), sum_by-cons entry_weight e es)
    ] refl

-- at most one more
pub length_put : (u : List ℕ) (v : ℕ × ℕ) (counts : Counts) → T (is_sorted cmp counts) → length (put cmp u v counts) ≤ length counts + 1
length_put u v counts sorted =
    let is : length (put cmp u v counts) ≡ cond (is_some (find cmp u counts)) (length counts) (length counts + 1) = length_put_is cmp nat_list_cmp_total u v counts sorted in
    within (is_some (find cmp u counts)) (length counts) _ is
  where
    within : (b : Bool) (n m : ℕ) → m ≡ cond b n (n + 1) → m ≤ n + 1
    within true n m is = omega arith
    within false n m is = omega arith

-- a test of keys that holds of all
pub all_put : (test : List ℕ → Bool) (u : List ℕ) (v : ℕ × ℕ) (counts : Counts) → test u ≡ true → list_all (λ e. test e.0) counts ≡ true → list_all (λ e. test e.0) (put cmp u v counts) ≡ true
all_put test u v [] here all = and_from (test u) true here refl
all_put test u v (e ∷ es) here all =
    let parts = and_parts (test e.0) (list_all (λ e. test e.0) es) all in
    elim (cmp u e.0) as (λ (r : Ordering). list_all (λ e. test e.0) (by_order r ((u, v) ∷ e ∷ es) ((e.0, v) ∷ es) (e ∷ put cmp u v es)) ≡ true) [
      | Less ↦ and_from (test u) (test e.0 && list_all (λ e. test e.0) es) here all
      | Equal ↦ all
      | Greater ↦ and_from (test e.0) (list_all (λ e. test e.0) (put cmp u v es)) parts.0 (all_put test u v es here parts.1)
    ]
