-- A list of entries joined to a map: what it finds, in any order, and by a sort.
use Rattle.std.proofs.Common.{◌≡◌, ℕ, suc, zero, ◌≤◌, Bool, true, false, cond, List, [], ◌∷◌, Option, Some, None, unwrap_or, max, fold, sym, refl, ap, ◌∙◌, arith}
use Rattle.std.proofs.lemmas.List.Elements.{All-nil, All-cons, All-head, All-tail}
use Rattle.std.proofs.lemmas.List.Sorted.{All-permutation, IsPermutation-sym}
use Rattle.std.specs.Ordering.{eq_by_cmp}
use Rattle.std.specs.FinMap.Entries.{find, find-put, find_tied, same_entries}
use Rattle.std.specs.List.{list_all, All}
use Rattle.std.specs.List.Sorted.{IsPermutation}
use Rattle.pg_patterns.specs.DottedSigns.{dotted_cmp}
use Rattle.pg_patterns.specs.Inside.DottedOrder.{dotted_total, same_dotted, dotted_ties, dotted_exact}
use Rattle.pg_patterns.specs.Values.{Patterns, raise, value_of, greatest_value, map_of_entries}
use Rattle.pg_patterns.specs.Inside.PatternMaps.{is_entry, IsPatternMap}
use Rattle.pg_types.proofs.BoolFacts.{and_first, and_second, equal_is}
use Rattle.pg_patterns.proofs.Sound.{raise_keeps, entry_bounds}

-- v where the test passes, else 0
abbrev pub only : Bool → ℕ → ℕ
only t v = cond t v 0

value_of_put : (t : Bool) (v : ℕ) (r s : Option ℕ) → (t ≡ true → r ≡ s) → unwrap_or (cond t (Some (max v (unwrap_or r 0))) s) 0 ≡ max (only t v) (unwrap_or s 0)
value_of_put true v r s tied = ap (λ x. max v (unwrap_or x 0)) (tied refl)
value_of_put false v r s tied = omega arith

-- a raise changes the value of its dotted string alone
pub value_of_raise : (P : Patterns) (j k : List ℕ × ℕ) (v : ℕ) → value_of (raise P j v) k ≡ max (only (same_dotted k j) v) (value_of P k)
value_of_raise P j k v =
    ap (λ r. unwrap_or r 0) (find-put dotted_cmp dotted_total k j (max v (value_of P j)) P)
    ∙ value_of_put (eq_by_cmp dotted_cmp k j) v (find dotted_cmp j P) (find dotted_cmp k P) (λ t. find_tied dotted_cmp dotted_total k j (equal_is _ t) P)
    ∙ ap (λ t. max (only t v) (value_of P k)) (sym (dotted_ties k j))

max_turned : (a b c : ℕ) → max b (max a c) ≡ max (max a b) c
max_turned a b c = omega arith

-- what was there and what is raised after it, in any order
pub value_of_fold : (es P : List ((List ℕ × ℕ) × ℕ)) (k : List ℕ × ℕ) → value_of (fold (λ Q e. raise Q e.0 e.1) P es) k ≡ max (greatest_value (same_dotted k) es) (value_of P k)
value_of_fold [] P k = omega arith
value_of_fold (e ∷ es) P k =
    value_of_fold es (raise P e.0 e.1) k
    ∙ ap (λ n. max (greatest_value (same_dotted k) es) n) (value_of_raise P e.0 k e.1)
    ∙ max_turned (only (same_dotted k e.0) e.1) (greatest_value (same_dotted k) es) (value_of P k)

pub value_of_joined : (es : List ((List ℕ × ℕ) × ℕ)) (k : List ℕ × ℕ) → value_of (map_of_entries es) k ≡ greatest_value (same_dotted k) es
value_of_joined es k = value_of_fold es [] k ∙ max_none (greatest_value (same_dotted k) es)
  where
    max_none : (n : ℕ) → max n 0 ≡ n
    max_none n = omega arith

fold_keeps : (es P : List ((List ℕ × ℕ) × ℕ)) → IsPatternMap P → list_all is_entry es ≡ true → IsPatternMap (fold (λ Q e. raise Q e.0 e.1) P es)
fold_keeps [] P map sound = map
fold_keeps (e ∷ es) P map sound = fold_keeps es (raise P e.0 e.1) (raise_keeps P e.0 e.1 map (entry_bounds e (and_first _ _ sound))) (and_second _ _ sound)

-- entries of patterns are joined to a map of patterns
pub joined_keeps : (es : List ((List ℕ × ℕ) × ℕ)) → list_all is_entry es ≡ true → IsPatternMap (map_of_entries es)
joined_keeps es sound = fold_keeps es [] (record { sorted = tt; sound = refl }) sound

-- the entry of a value that is not 0
abbrev found : ℕ → Option ℕ
found zero = None
found (suc n) = Some (suc n)

found_some : (n : ℕ) → 1 ≤ n → Some n ≡ found n
found_some zero low = absurd (omega arith)
found_some (suc n) low = refl

find_found : (P : Patterns) (k : List ℕ × ℕ) → list_all is_entry P ≡ true → find dotted_cmp k P ≡ found (value_of P k)
find_found [] k sound = refl
find_found (e ∷ es) k sound =
    elim (eq_by_cmp dotted_cmp k e.0) as (λ t. cond t (Some e.1) (find dotted_cmp k es) ≡ found (unwrap_or (cond t (Some e.1) (find dotted_cmp k es)) 0)) [
      | true ↦ found_some e.1 (entry_bounds e (and_first _ _ sound)).low
      | false ↦ find_found es k (and_second _ _ sound)
    ]

-- maps with the same values are the same
pub same_maps : (P Q : Patterns) → IsPatternMap P → IsPatternMap Q → ((k : List ℕ × ℕ) → value_of P k ≡ value_of Q k) → P ≡ Q
same_maps P Q left right values =
    same_entries dotted_cmp dotted_total dotted_exact P Q left.sorted right.sorted (λ k. find_found P k left.sound ∙ ap found (values k) ∙ sym (find_found Q k right.sound))

-- the greatest value is that of any order of the entries
all_upto : (t : List ℕ × ℕ → Bool) (es : List ((List ℕ × ℕ) × ℕ)) (n : ℕ) → greatest_value t es ≤ n → All (λ (e : (List ℕ × ℕ) × ℕ). only (t e.0) e.1 ≤ n) es
all_upto t [] n bound = All-nil _
all_upto t (e ∷ es) n bound = All-cons (λ (e : (List ℕ × ℕ) × ℕ). only (t e.0) e.1 ≤ n) e es (omega arith) (all_upto t es n (omega arith))

pub best_upto : (t : List ℕ × ℕ → Bool) (es : List ((List ℕ × ℕ) × ℕ)) (n : ℕ) → All (λ (e : (List ℕ × ℕ) × ℕ). only (t e.0) e.1 ≤ n) es → greatest_value t es ≤ n
best_upto t [] n all = omega arith
best_upto t (e ∷ es) n all =
    let here : only (t e.0) e.1 ≤ n = All-head (λ (e : (List ℕ × ℕ) × ℕ). only (t e.0) e.1 ≤ n) e es all in
    let rest : greatest_value t es ≤ n = best_upto t es n (All-tail (λ (e : (List ℕ × ℕ) × ℕ). only (t e.0) e.1 ≤ n) e es all) in
    omega arith

best_kept : (t : List ℕ × ℕ → Bool) (es fs : List ((List ℕ × ℕ) × ℕ)) → IsPermutation es fs → greatest_value t fs ≤ greatest_value t es
best_kept t es fs moved = best_upto t fs (greatest_value t es) (All-permutation (λ (e : (List ℕ × ℕ) × ℕ). only (t e.0) e.1 ≤ greatest_value t es) es fs moved
    (all_upto t es (greatest_value t es) (omega arith)))

pub best-IsPermutation : (t : List ℕ × ℕ → Bool) (es fs : List ((List ℕ × ℕ) × ℕ)) → IsPermutation es fs → greatest_value t fs ≡ greatest_value t es
best-IsPermutation t es fs moved =
    let one : greatest_value t fs ≤ greatest_value t es = best_kept t es fs moved in
    let other : greatest_value t es ≤ greatest_value t fs = best_kept t fs es (IsPermutation-sym es fs moved) in
    omega arith
