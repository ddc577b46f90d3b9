-- What is in a list, and what is found in a map.
use Rattle.std.proofs.Common.{◌≡◌, ℕ, zero, suc, ◌+◌, ◌<◌, ◌≤◌, max, Bool, true, false, cond, T, ◌⊎◌, inl, inr, ⊎_elim, List, [], ◌∷◌, ◌++◌, Some, refl, sym, ap, subst, ◌∙◌, arith}
use Rattle.std.specs.declared.cmp.Ordering.TheVariants.{Less, Greater}
use Rattle.std.specs.Ordering.{is_eq, is_lt, eq_by_cmp, ordering_reverse}
use Rattle.std.specs.Cmp.{tied_itself}
use Rattle.std.specs.FinMap.Entries.{find, is_sorted, below_all}
use Rattle.std.specs.List.{flat_map, range_with_len, list_all, list_any}
use Rattle.std.proofs.lemmas.Bool.{cases_lt, and_parts, or_cases, or_left, or_right}
use Rattle.pg_patterns.specs.DottedSigns.{dotted_cmp}
use Rattle.pg_patterns.specs.Inside.DottedOrder.{dotted_total, dotted_exact}
use Rattle.pg_patterns.specs.Values.{Patterns, greatest_value}
use Rattle.pg_types.proofs.BoolFacts.{is_true, first_half, second_half, less_is, equal_is}
use Rattle.pg_patterns.proofs.Ordered.{find_there}

-- x is an element of the list
abbrev pub In : {X : Type 0} → X → List X → Type 0
In x [] = ⊥
In x (y ∷ ys) = (x ≡ y) ⊎ In x ys

module _ {X : Type 0} where
  pub in_left : (x : X) (xs ys : List X) → In x xs → In x (xs ++ ys)
  in_left x [] ys here = absurd here
  in_left x (y ∷ xs) ys here = elim here [ inl same ↦ inl same | inr later ↦ inr (in_left x xs ys later) ]

  pub in_right : (x : X) (xs ys : List X) → In x ys → In x (xs ++ ys)
  in_right x [] ys here = here
  in_right x (y ∷ xs) ys here = inr (in_right x xs ys here)

  pub in_either : (x : X) (xs ys : List X) → In x (xs ++ ys) → In x xs ⊎ In x ys
  in_either x [] ys here = inr here
  in_either x (y ∷ xs) ys here =
      elim here [
        | inl same ↦ inl (inl same)
        | inr later ↦ elim (in_either x xs ys later) [ inl first ↦ inl (inr first) | inr second ↦ inr second ]
      ]

  -- what all pass, each passes
  pub all_in : (test : X → Bool) (xs : List X) (x : X) → list_all test xs ≡ true → In x xs → test x ≡ true
  all_in test [] x all here = absurd here
  all_in test (y ∷ xs) x all here =
      elim here [
        | inl same ↦ ap test same ∙ (and_parts (test y) (list_all test xs) all).0
        | inr later ↦ all_in test xs x (and_parts (test y) (list_all test xs) all).1 later
      ]

  -- some pass where one does, and back
  pub in_any : (test : X → Bool) (xs : List X) (x : X) → In x xs → test x ≡ true → list_any test xs ≡ true
  in_any test [] x here pass = absurd here
  in_any test (y ∷ xs) x here pass =
      elim here [
        | inl same ↦ or_left (test y) (list_any test xs) (ap test (sym same) ∙ pass)
        | inr later ↦ or_right (test y) (list_any test xs) (in_any test xs x later pass)
      ]

  pub any_in : (test : X → Bool) (xs : List X) → list_any test xs ≡ true → (x : X) × In x xs × (test x ≡ true)
  any_in test [] some = cc
  any_in test (y ∷ xs) some =
      elim (or_cases (test y) (list_any test xs) some) [
        | inl here ↦ (y, inl refl, here)
        | inr later ↦ let there = any_in test xs later in (there.0, inr there.1, there.2)
      ]

module _ {X Y : Type 0} (f : X → List Y) where
  pub in_flat : (y : Y) (x : X) (xs : List X) → In x xs → In y (f x) → In y (flat_map f xs)
  in_flat y x [] here part = absurd here
  in_flat y x (z ∷ xs) here part =
      elim here [
        | inl same ↦ in_left y (f z) (flat_map f xs) (subst (λ (v : X). In y (f v)) same part)
        | inr later ↦ in_right y (f z) (flat_map f xs) (in_flat y x xs later part)
      ]

  pub flat_in : (y : Y) (xs : List X) → In y (flat_map f xs) → (x : X) × In y (f x)
  flat_in y [] here = absurd here
  flat_in y (x ∷ xs) here =
      elim (in_either y (f x) (flat_map f xs) here) [ inl part ↦ (x, part) | inr later ↦ flat_in y xs later ]

pub in_range : (d a n : ℕ) → a ≤ d → d < a + n → In d (range_with_len a n)
in_range d a zero low high = absurd (omega arith)
in_range d a (suc n) low high =
    ⊎_elim
    (λ (above : a < d). inr (in_range d (a + 1) n (omega arith) (omega arith)))
    (λ (at : d ≤ a). inl (omega arith))
    (cases_lt a d)

module _ {X : Type 0} where
  -- a key below those of all entries is below that of each
  below_in : (k : List ℕ × ℕ) (es : List ((List ℕ × ℕ) × X)) (e : (List ℕ × ℕ) × X) → T (below_all dotted_cmp k es) → In e es → dotted_cmp k e.0 ≡ Less
  below_in k [] e below here = absurd here
  below_in k (y ∷ es) e below here =
      elim here [
        | inl same ↦ ap (λ (x : (List ℕ × ℕ) × X). dotted_cmp k x.0) same ∙ less_is (dotted_cmp k y.0) (is_true _ (first_half (is_lt (dotted_cmp k y.0)) (below_all dotted_cmp k es) below))
        | inr later ↦ below_in k es e (second_half (is_lt (dotted_cmp k y.0)) (below_all dotted_cmp k es) below) later
      ]

  -- an entry of a map in order is found by its key
  pub in_found : (es : List ((List ℕ × ℕ) × X)) (e : (List ℕ × ℕ) × X) → T (is_sorted dotted_cmp es) → In e es → find dotted_cmp e.0 es ≡ Some e.1
  in_found [] e sorted here = absurd here
  in_found (y ∷ es) e sorted here =
      elim here [
        | inl same ↦ subst (λ (x : (List ℕ × ℕ) × X). find dotted_cmp x.0 (y ∷ es) ≡ Some x.1) (sym same) (find_there dotted_cmp y.0 y es (ap is_eq (tied_itself dotted_total y.0)))
        | inr later ↦
            let low : dotted_cmp y.0 e.0 ≡ Less = below_in y.0 es e (first_half (below_all dotted_cmp y.0 es) (is_sorted dotted_cmp es) sorted) later in
            let high : dotted_cmp e.0 y.0 ≡ Greater = dotted_total.antisymm e.0 y.0 ∙ ap ordering_reverse low in
            ap (λ r. cond (is_eq r) (Some y.1) (find dotted_cmp e.0 es)) high ∙ in_found es e (second_half (below_all dotted_cmp y.0 es) (is_sorted dotted_cmp es) sorted) later
      ]

  -- what is found is an entry
  pub found_in : (k : List ℕ × ℕ) (v : X) (es : List ((List ℕ × ℕ) × X)) → find dotted_cmp k es ≡ Some v → In (k, v) es
  found_in k v [] found = cc
  found_in k v (e ∷ es) found =
      elim (eq_by_cmp dotted_cmp k e.0) as (λ b. eq_by_cmp dotted_cmp k e.0 ≡ b → cond b (Some e.1) (find dotted_cmp k es) ≡ Some v → In (k, v) (e ∷ es)) [
        | true ↦ λ tied there.
            let key : k ≡ e.0 = dotted_exact k e.0 (equal_is (dotted_cmp k e.0) tied) in
            let value : v ≡ e.1 = cc in
            inl (λ i. (key i, value i))
        | false ↦ λ apart there. inr (found_in k v es there)
      ] refl found

-- what is over the greater of two numbers, and within it
pub most_first : (a b n : ℕ) → n ≤ a → n ≤ max a b
most_first a b n low = omega arith

pub most_rest : (a b n : ℕ) → n ≤ b → n ≤ max a b
most_rest a b n low = omega arith

pub most : (a b n : ℕ) → a ≤ n → b ≤ n → max a b ≤ n
most a b n p q = omega arith

module _ (test : List ℕ × ℕ → Bool) where
  -- the greatest value is over each that passes
  pub in_best : (P : Patterns) (e : (List ℕ × ℕ) × ℕ) → In e P → test e.0 ≡ true → e.1 ≤ greatest_value test P
  in_best [] e here pass = absurd here
  in_best (y ∷ P) e here pass =
      elim here [
        | inl same ↦
            let passes : test y.0 ≡ true = ap (λ (x : (List ℕ × ℕ) × ℕ). test x.0) (sym same) ∙ pass in
            let is : cond (test y.0) y.1 0 ≡ e.1 = ap (λ b. cond b y.1 0) passes ∙ ap (λ (x : (List ℕ × ℕ) × ℕ). x.1) (sym same) in
            most_first (cond (test y.0) y.1 0) (greatest_value test P) e.1 (omega (arith, is))
        | inr later ↦ most_rest (cond (test y.0) y.1 0) (greatest_value test P) e.1 (in_best P e later pass)
      ]

  -- and within a bound on them
  pub best_within : (P : Patterns) (n : ℕ) → ((e : (List ℕ × ℕ) × ℕ) → In e P → test e.0 ≡ true → e.1 ≤ n) → greatest_value test P ≤ n
  best_within [] n each = omega arith
  best_within (y ∷ P) n each =
      let rest : greatest_value test P ≤ n = best_within P n (λ e later pass. each e (inr later) pass) in
      elim (test y.0) as (λ b. test y.0 ≡ b → max (cond b y.1 0) (greatest_value test P) ≤ n) [
        | true ↦ λ pass. most y.1 (greatest_value test P) n (each y (inl refl) pass) rest
        | false ↦ λ fail. most 0 (greatest_value test P) n (omega arith) rest
      ] refl
