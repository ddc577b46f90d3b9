-- What a raise makes of values, and what a raise and a hopeless dotted string make of covers.
use Rattle.std.proofs.Common.{◌≡◌, ℕ, ◌<◌, ◌≤◌, nat_le, Bool, true, false, cond, ◌&&◌, ◌||◌, ◌⊎◌, inl, inr, ⊎_elim, List, [], ◌∷◌, unwrap_or, Some, max, refl, sym, ap, ◌∙◌, arith}
use Rattle.std.specs.declared.cmp.Ordering.{Ordering}
use Rattle.std.specs.declared.cmp.Ordering.TheVariants.{Less, Equal, Greater}
use Rattle.std.specs.Ordering.{is_eq, eq_by_cmp}
use Rattle.std.specs.List.{list_any}
use Rattle.std.specs.FinMap.Entries.{put, find, by_order}
use Rattle.std.proofs.lemmas.Bool.{le-leb, cases_lt, and_parts}
use Rattle.pg_patterns.specs.DottedSigns.{dotted_cmp}
use Rattle.pg_patterns.specs.Inside.DottedOrder.{dotted_exact}
use Rattle.pg_patterns.specs.Values.{Patterns, value_of, raise, greatest_value, applies, value_at}
use Rattle.pg_types.proofs.BoolFacts.{equal_is}
use Rattle.pg_patterns.proofs.Joins.{only}
use Rattle.pg_select.specs.Windows.{Hopeless, is_covered}

-- a greater value of a dotted string is the greatest wherever it passes
best_put : (t : List ℕ × ℕ → Bool) (k : List ℕ × ℕ) (v : ℕ) (es : List ((List ℕ × ℕ) × ℕ)) → value_of es k ≤ v → greatest_value t (put dotted_cmp k v es) ≡ max (only (t k) v) (greatest_value t es)
best_put t k v [] low = refl
best_put t k v (e ∷ es) low =
    elim (dotted_cmp k e.0) as (λ (r : Ordering). dotted_cmp k e.0 ≡ r → greatest_value t (by_order r ((k, v) ∷ e ∷ es) ((e.0, v) ∷ es) (e ∷ put dotted_cmp k v es))
    ≡ max (only (t k) v) (max (only (t e.0) e.1) (greatest_value t es))) [
      | Less ↦ λ r. refl
      | Equal ↦ λ r.
          let found : value_of (e ∷ es) k ≡ e.1 = ap (λ x. unwrap_or (cond (is_eq x) (Some e.1) (find dotted_cmp k es)) 0) r in
          let here : e.1 ≤ v = omega arith in
          ap (λ x. max (only (t x) v) (greatest_value t es)) (sym (dotted_exact k e.0 r))
          ∙ over (t k) e.1 v (greatest_value t es) here
          ∙ ap (λ x. max (only (t k) v) (max (only (t x) e.1) (greatest_value t es))) (dotted_exact k e.0 r)
      | Greater ↦ λ r.
          let found : value_of (e ∷ es) k ≡ value_of es k = ap (λ x. unwrap_or (cond (is_eq x) (Some e.1) (find dotted_cmp k es)) 0) r in
          let rest : greatest_value t (put dotted_cmp k v es) ≡ max (only (t k) v) (greatest_value t es) = best_put t k v es (omega arith) in
          ap (λ n. max (only (t e.0) e.1) n) rest ∙ turned (only (t e.0) e.1) (only (t k) v) (greatest_value t es)
    ] refl
  where
    over : (b : Bool) (u v n : ℕ) → u ≤ v → max (only b v) n ≡ max (only b v) (max (only b u) n)
    over true u v n low = omega arith
    over false u v n low = omega arith

    turned : (a b c : ℕ) → max a (max b c) ≡ max b (max a c)
    turned a b c = omega arith

-- the value of a dotted string is within the greatest where it passes
value_within : (t : List ℕ × ℕ → Bool) (k : List ℕ × ℕ) (es : List ((List ℕ × ℕ) × ℕ)) → t k ≡ true → value_of es k ≤ greatest_value t es
value_within t k [] pass = omega arith
value_within t k (e ∷ es) pass =
    elim (eq_by_cmp dotted_cmp k e.0) as (λ (b : Bool). eq_by_cmp dotted_cmp k e.0 ≡ b → unwrap_or (cond b (Some e.1) (find dotted_cmp k es)) 0 ≤ max (only (t e.0) e.1) (greatest_value t es)) [
      | true ↦ λ b.
          let there : only (t e.0) e.1 ≡ e.1 = ap (λ x. only x e.1) (ap t (sym (dotted_exact k e.0 (equal_is (dotted_cmp k e.0) b))) ∙ pass) in
          omega arith
      | false ↦ λ b. let rest : value_of es k ≤ greatest_value t es = value_within t k es pass in omega arith
    ] refl

-- a raise raises the values of the positions where its dotted string applies, and no others
pub raised_value : (P : Patterns) (k : List ℕ × ℕ) (v : ℕ) (w : List ℕ) (p : ℕ) → value_at (raise P k v) w p ≡ max (only (applies w p k) v) (value_at P w p)
raised_value P k v w p =
    best_put (applies w p) k (max v (value_of P k)) P (omega arith)
    ∙ with_old (applies w p k) (value_of P k) v (value_at P w p) (value_within (applies w p) k P)
  where
    with_old : (b : Bool) (u v n : ℕ) → (b ≡ true → u ≤ n) → max (only b (max v u)) n ≡ max (only b v) n
    with_old true u v n low = let upto : u ≤ n = low refl in omega arith
    with_old false u v n low = refl

-- a value that is raised to the level is the level or what it was
pub raised_to : (P : Patterns) (k : List ℕ × ℕ) (level : ℕ) (w : List ℕ) (p : ℕ) → (value_at (raise P k level) w p ≡ value_at P w p) ⊎ (value_at (raise P k level) w p ≡ level)
raised_to P k level w p = by_test (applies w p k) (raised_value P k level w p)
  where
    by_test : (b : Bool) → value_at (raise P k level) w p ≡ max (only b level) (value_at P w p) → (value_at (raise P k level) w p ≡ value_at P w p) ⊎ (value_at (raise P k level) w p ≡ level)
    by_test false is = inl (omega arith)
    by_test true is =
        ⊎_elim
        (λ (low : value_at P w p < level). inr (omega arith))
        (λ (high : level ≤ value_at P w p). inl (omega arith))
        (cases_lt (value_at P w p) level)

-- an entry more that passes where the one of its dotted string did
any_put : {X : Type 0} (t : (List ℕ × ℕ) × X → Bool) (k : List ℕ × ℕ) (v : X) (es : List ((List ℕ × ℕ) × X)) → ((x : X) → t (k, x) ≡ true → t (k, v) ≡ true)
    → list_any t (put dotted_cmp k v es) ≡ (t (k, v) || list_any t es)
any_put t k v [] more = refl
any_put {X} t k v (e ∷ es) more =
    elim (dotted_cmp k e.0) as (λ (r : Ordering). dotted_cmp k e.0 ≡ r → list_any t (by_order r ((k, v) ∷ e ∷ es) ((e.0, v) ∷ es) (e ∷ put dotted_cmp k v es)) ≡ (t (k, v) || (t e || list_any t es))) [
      | Less ↦ λ r. refl
      | Equal ↦ λ r.
          ap (λ (x : List ℕ × ℕ). t (x, v) || list_any t es) (sym (dotted_exact k e.0 r))
          ∙ within (t (k, v)) (t (k, e.1)) (list_any t es) (more e.1)
          ∙ ap (λ (x : List ℕ × ℕ). t (k, v) || (t (x, e.1) || list_any t es)) (dotted_exact k e.0 r)
      | Greater ↦ λ r. ap (λ b. t e || b) (any_put t k v es more) ∙ turned (t e) (t (k, v)) (list_any t es)
    ] refl
  where
    within : (a b c : Bool) → (b ≡ true → a ≡ true) → (a || c) ≡ (a || (b || c))
    within true b c more = refl
    within false true c more = cc (more refl)
    within false false c more = refl

    turned : (a b c : Bool) → (a || (b || c)) ≡ (b || (a || c))
    turned true true c = refl
    turned true false c = refl
    turned false b c = refl

both_tests : (a b c : Bool) → ((a || b) || c) ≡ (a || (b || c))
both_tests true b c = refl
both_tests false b c = refl

-- a dotted string that is raised to the level covers where it applies
pub covered_raised : (level : ℕ) (P : Patterns) (H : Hopeless) (k : List ℕ × ℕ) (u : List ℕ) (d : ℕ) → is_covered level (raise P k level) H u d
    ≡ (applies u d k || is_covered level P H u d)
covered_raised level P H k u d =
    let high : nat_le level (max level (value_of P k)) ≡ true = le-leb level (max level (value_of P k)) (omega arith) in
    let here : (nat_le level (max level (value_of P k)) && applies u d k) ≡ applies u d k = ap (λ b. b && applies u d k) high in
    ap (λ b. b || list_any (λ (e : (List ℕ × ℕ) × Unit {0}). applies u d e.0) H)
    (any_put (λ (e : (List ℕ × ℕ) × ℕ). nat_le level e.1 && applies u d e.0) k (max level (value_of P k)) P (λ x pass. here ∙ (and_parts (nat_le level x) (applies u d k) pass).1))
    ∙ ap (λ b. (b || list_any (λ (e : (List ℕ × ℕ) × ℕ). nat_le level e.1 && applies u d e.0) P) || list_any (λ (e : (List ℕ × ℕ) × Unit {0}). applies u d e.0) H) here
    ∙ both_tests (applies u d k) (list_any (λ (e : (List ℕ × ℕ) × ℕ). nat_le level e.1 && applies u d e.0) P) (list_any (λ (e : (List ℕ × ℕ) × Unit {0}). applies u d e.0) H)

-- and so does a hopeless dotted string
pub covered_hopeless : (level : ℕ) (P : Patterns) (H : Hopeless) (k : List ℕ × ℕ) (u : List ℕ) (d : ℕ) → is_covered level P (put dotted_cmp k (tt {0}) H) u d
    ≡ (applies u d k || is_covered level P H u d)
covered_hopeless level P H k u d =
    ap (λ b. list_any (λ (e : (List ℕ × ℕ) × ℕ). nat_le level e.1 && applies u d e.0) P || b) (any_put (λ (e : (List ℕ × ℕ) × Unit {0}). applies u d e.0) k (tt {0}) H (λ x pass. pass))
    ∙ turned (list_any (λ (e : (List ℕ × ℕ) × ℕ). nat_le level e.1 && applies u d e.0) P) (applies u d k) (list_any (λ (e : (List ℕ × ℕ) × Unit {0}). applies u d e.0) H)
  where
    turned : (a b c : Bool) → (a || (b || c)) ≡ (b || (a || c))
    turned true true c = refl
    turned true false c = refl
    turned false b c = refl
