-- The entries of the strings of a map are joined to the map again.
use Rattle.std.proofs.Common.{◌≡◌, ℕ, ◌+◌, ◌≤◌, Bool, true, false, cond, ◌||◌, nat_eq, List, [], ◌∷◌, ◌++◌, length, map, flat_map, Some, None, unwrap_or, max, sym, refl, ap, subst, ◌∙◌, ⊎_elim, arith}
use Rattle.std.proofs.lemmas.Bool.{cases_lt}
use Rattle.std.proofs.lemmas.List.Elements.{All-nil, All-cons, All-head, All-tail, All-append, All-weaker}
use Rattle.std.specs.Cmp.Lexicographic.{pointwise, texts_ties}
use Rattle.std.specs.FinMap.Entries.{find}
use Rattle.std.specs.List.{All, list_any, list_all}
use Rattle.std.specs.Option.{option_map_or}
use Rattle.std.specs.Ordering.{eq_by_cmp}
use Rattle.pg_patterns.specs.DottedSigns.{dotted_cmp}
use Rattle.pg_patterns.specs.Inside.DottedOrder.{same_dotted, dotted_equiv, dotted_ties, dotted_exact}
use Rattle.pg_patterns.specs.Values.{Patterns, value_of, greatest_value, map_of_entries}
use Rattle.pg_patterns.specs.Inside.PatternMaps.{IsPatternMap, is_entry}
use Rattle.pg_patterns.specs.Inside.EntryLines.{entry_at, entries_at}
use Rattle.pg_patterns.specs.Inside.PatternLines.{with_string, strings_by}
use Rattle.pg_types.proofs.BoolFacts.{and_first, equal_is}
use Rattle.pg_patterns.proofs.Sound.{entry_bounds}
use Rattle.pg_patterns.proofs.Joins.{only, best_upto, same_maps, joined_keeps, value_of_joined}
use Rattle.pg_patterns.proofs.Kept.{told_all}
use Rattle.pg_patterns.proofs.Strings.{equal_signs}
use Rattle.pg_patterns.proofs.ReadBack.{found_entry, values_from, entries_of}

within_of : (a b c : ℕ) → a ≤ b → b ≤ c → a ≤ c
within_of a b c p q = omega arith

-- an entry is that of the map
abbrev IsOf : List ((List ℕ × ℕ) × ℕ) → (List ℕ × ℕ) × ℕ → Type 0
IsOf P e = find dotted_cmp e.0 P ≡ Some e.1

value_there : (P : Patterns) (q : List ℕ) (dot : ℕ) → All (λ (x : ℕ × ℕ). find dotted_cmp (q, x.0) P ≡ Some x.1) (option_map_or (λ v. (dot, v) ∷ []) (find dotted_cmp (q, dot) P) [])
value_there P q dot =
    elim (find dotted_cmp (q, dot) P) as (λ o. find dotted_cmp (q, dot) P ≡ o → All (λ (x : ℕ × ℕ). find dotted_cmp (q, x.0) P ≡ Some x.1) (option_map_or (λ v. (dot, v) ∷ []) o [])) [
      | None ↦ λ is. All-nil (λ (x : ℕ × ℕ). find dotted_cmp (q, x.0) P ≡ Some x.1)
      | Some v ↦ λ is. All-cons (λ (x : ℕ × ℕ). find dotted_cmp (q, x.0) P ≡ Some x.1) (dot, v) [] is (All-nil (λ (x : ℕ × ℕ). find dotted_cmp (q, x.0) P ≡ Some x.1))
    ] refl

values_of : (P : Patterns) (q : List ℕ) (dot : ℕ) (ss : List ℕ) → All (λ (x : ℕ × ℕ). find dotted_cmp (q, x.0) P ≡ Some x.1) (values_from P q dot ss)
values_of P q dot [] = value_there P q dot
values_of P q dot (s ∷ ss) = All-append (λ (x : ℕ × ℕ). find dotted_cmp (q, x.0) P ≡ Some x.1) (option_map_or (λ v. (dot, v) ∷ []) (find dotted_cmp (q, dot) P) [])
    (values_from P q (dot + 1) ss) (value_there P q dot) (values_of P q (dot + 1) ss)

entries_are_of : (P : Patterns) (q : List ℕ) (xs : List (ℕ × ℕ)) → All (λ (x : ℕ × ℕ). find dotted_cmp (q, x.0) P ≡ Some x.1) xs → All (IsOf P) (map (entry_at q) xs)
entries_are_of P q [] all = All-nil (IsOf P)
entries_are_of P q (x ∷ xs) all =
    All-cons (IsOf P) ((q, x.0), x.1) (map (entry_at q) xs) (All-head (λ (x : ℕ × ℕ). find dotted_cmp (q, x.0) P ≡ Some x.1) x xs all)
    (entries_are_of P q xs (All-tail (λ (x : ℕ × ℕ). find dotted_cmp (q, x.0) P ≡ Some x.1) x xs all))

string_is_of : (P : Patterns) (q : List ℕ) (xs : List (ℕ × ℕ)) → All (λ (x : ℕ × ℕ). find dotted_cmp (q, x.0) P ≡ Some x.1) xs → All (IsOf P) (entries_at q xs)
string_is_of P [] xs all = All-nil (IsOf P)
string_is_of P (s ∷ q) xs all = entries_are_of P (s ∷ q) xs all

strings_are_of : (P : Patterns) (qs : List (List ℕ)) → All (IsOf P) (flat_map (entries_of P) qs)
strings_are_of P [] = All-nil (IsOf P)
strings_are_of P (q ∷ qs) = All-append (IsOf P) (entries_of P q) (flat_map (entries_of P) qs) (string_is_of P q (values_from P q 0 q) (values_of P q 0 q)) (strings_are_of P qs)

-- no value is greater than that of the map
value_upto : (P : Patterns) (k : List ℕ × ℕ) (e : (List ℕ × ℕ) × ℕ) → IsOf P e → only (same_dotted k e.0) e.1 ≤ value_of P k
value_upto P k e of =
    elim (same_dotted k e.0) as (λ b. same_dotted k e.0 ≡ b → only b e.1 ≤ value_of P k) [
      | true ↦ λ same.
          let one : k ≡ e.0 = dotted_exact k e.0 (equal_is _ (sym (dotted_ties k e.0) ∙ same)) in
          let value : value_of P k ≡ e.1 = ap (value_of P) one ∙ ap (λ o. unwrap_or o 0) of in
          omega arith
      | false ↦ λ other. omega arith
    ] refl

all_upto_value : (P es : List ((List ℕ × ℕ) × ℕ)) (k : List ℕ × ℕ) → All (IsOf P) es → All (λ (e : (List ℕ × ℕ) × ℕ). only (same_dotted k e.0) e.1 ≤ value_of P k) es
all_upto_value P [] k all = All-nil (λ (e : (List ℕ × ℕ) × ℕ). only (same_dotted k e.0) e.1 ≤ value_of P k)
all_upto_value P (e ∷ es) k all =
    All-cons (λ (e : (List ℕ × ℕ) × ℕ). only (same_dotted k e.0) e.1 ≤ value_of P k) e es (value_upto P k e (All-head (IsOf P) e es all)) (all_upto_value P es k (All-tail (IsOf P) e es all))

-- the value of each dotted string is there
best_left : (t : List ℕ × ℕ → Bool) (xs ys : List ((List ℕ × ℕ) × ℕ)) → greatest_value t xs ≤ greatest_value t (xs ++ ys)
best_left t [] ys = omega arith
best_left t (x ∷ xs) ys = larger (only (t x.0) x.1) (greatest_value t xs) (greatest_value t (xs ++ ys)) (best_left t xs ys)
  where
    larger : (a b c : ℕ) → b ≤ c → max a b ≤ max a c
    larger a b c upto = omega arith

best_right : (t : List ℕ × ℕ → Bool) (xs ys : List ((List ℕ × ℕ) × ℕ)) → greatest_value t ys ≤ greatest_value t (xs ++ ys)
best_right t [] ys = omega arith
best_right t (x ∷ xs) ys = farther (only (t x.0) x.1) (greatest_value t ys) (greatest_value t (xs ++ ys)) (best_right t xs ys)
  where
    farther : (a b c : ℕ) → b ≤ c → b ≤ max a c
    farther a b c upto = omega arith

map_append : (q : List ℕ) (xs ys : List (ℕ × ℕ)) → map (entry_at q) (xs ++ ys) ≡ map (entry_at q) xs ++ map (entry_at q) ys
map_append q [] ys = refl
map_append q (x ∷ xs) ys = ap (λ z. ((q, x.0), x.1) ∷ z) (map_append q xs ys)

value_here : (P : Patterns) (q : List ℕ) (dot v : ℕ) → find dotted_cmp (q, dot) P ≡ Some v
    → v ≤ greatest_value (same_dotted (q, dot)) (map (entry_at q) (option_map_or (λ v. (dot, v) ∷ []) (find dotted_cmp (q, dot) P) []))
value_here P q dot v is =
    subst (λ o. v ≤ greatest_value (same_dotted (q, dot)) (map (entry_at q) (option_map_or (λ v. (dot, v) ∷ []) o []))) (sym is)
    (let same : same_dotted (q, dot) (q, dot) ≡ true = dotted_equiv.refl (q, dot) in subst (λ b. v ≤ max (only b v) 0) (sym same) (omega arith))

value_among : (P : Patterns) (q : List ℕ) (first dot v : ℕ) (ss : List ℕ) → first ≤ dot → dot ≤ first + length ss → find dotted_cmp (q, dot) P
    ≡ Some v → v ≤ greatest_value (same_dotted (q, dot)) (map (entry_at q) (values_from P q first ss))
value_among P q first dot v [] low high is =
    let one : first ≡ dot = omega arith in
    subst (λ n. v ≤ greatest_value (same_dotted (q, dot)) (map (entry_at q) (option_map_or (λ v. (n, v) ∷ []) (find dotted_cmp (q, n) P) []))) (sym one) (value_here P q dot v is)
value_among P q first dot v (s ∷ ss) low high is =
    let here : List (ℕ × ℕ) = option_map_or (λ v. (first, v) ∷ []) (find dotted_cmp (q, first) P) [] in
    subst (λ x. v ≤ greatest_value (same_dotted (q, dot)) x) (sym (map_append q here (values_from P q (first + 1) ss)))
    (⊎_elim
    (λ later. within_of _ _ _ (value_among P q (first + 1) dot v ss (omega arith) (omega arith) is)
    (best_right (same_dotted (q, dot)) (map (entry_at q) here) (map (entry_at q) (values_from P q (first + 1) ss))))
    (λ upto.
    let one : first ≡ dot = omega arith in
    let now : v ≤ greatest_value (same_dotted (q, dot)) (map (entry_at q) here) =
    subst (λ n. v ≤ greatest_value (same_dotted (q, dot)) (map (entry_at q) (option_map_or (λ v. (n, v) ∷ []) (find dotted_cmp (q, n) P) []))) (sym one) (value_here P q dot v is) in
    within_of _ _ _ now (best_left (same_dotted (q, dot)) (map (entry_at q) here) (map (entry_at q) (values_from P q (first + 1) ss))))
    (cases_lt first dot))

-- the string of a dotted string that has a value is one of the map
string_added : (test : List ℕ → Bool) (q : List ℕ) (rs : List (List ℕ)) → list_any test (with_string q rs) ≡ (test q || list_any test rs)
string_added test q [] = refl
string_added test q (r ∷ rs) =
    elim (pointwise nat_eq q r) as (λ b. pointwise nat_eq q r ≡ b → list_any test (cond b (r ∷ rs) (q ∷ r ∷ rs)) ≡ (test q || (test r || list_any test rs))) [
      | true ↦ λ same.
          let one : r ≡ q = sym (equal_signs q r (equal_is _ (sym (texts_ties q r) ∙ same))) in
          twice (test q) (test r) (list_any test rs) (ap test one)
      | false ↦ λ other. refl
    ] refl
  where
    twice : (a b c : Bool) → b ≡ a → (b || c) ≡ (a || (b || c))
    twice true true c same = refl
    twice true false c same = cc
    twice false b c same = refl

string_among : (P : Patterns) (k : List ℕ × ℕ) (v : ℕ) → find dotted_cmp k P ≡ Some v → list_any (pointwise nat_eq k.0) (strings_by P) ≡ true
string_among [] k v is = cc
string_among (e ∷ es) k v is =
    string_added (pointwise nat_eq k.0) e.0.0 (strings_by es)
    ∙ elim (eq_by_cmp dotted_cmp k e.0) as (λ b. eq_by_cmp dotted_cmp k e.0 ≡ b → cond b (Some e.1) (find dotted_cmp k es) ≡ Some v
    → (pointwise nat_eq k.0 e.0.0 || list_any (pointwise nat_eq k.0) (strings_by es)) ≡ true) [
      | true ↦ λ tied there. ap (λ b. b || list_any (pointwise nat_eq k.0) (strings_by es)) (and_first _ _ (dotted_ties k e.0 ∙ tied))
      | false ↦ λ apart further. or_true (pointwise nat_eq k.0 e.0.0) _ (string_among es k v further)
    ] refl is
  where
    or_true : (a b : Bool) → b ≡ true → (a || b) ≡ true
    or_true true b is = refl
    or_true false b is = is

value_of_string : (P : Patterns) (q : List ℕ) (dot v : ℕ) → 1 ≤ length q → dot ≤ length q → find dotted_cmp (q, dot) P ≡ Some v
    → v ≤ greatest_value (same_dotted (q, dot)) (entries_of P q)
value_of_string P [] dot v some bound is = absurd (omega arith)
value_of_string P (s ∷ q) dot v some bound is = value_among P (s ∷ q) 0 dot v (s ∷ q) (omega arith) (omega arith) is

value_in_strings : (P : Patterns) (k : List ℕ × ℕ) (v : ℕ) (qs : List (List ℕ)) → 1 ≤ length k.0 → k.1 ≤ length k.0 → find dotted_cmp k P
    ≡ Some v → list_any (pointwise nat_eq k.0) qs ≡ true → v ≤ greatest_value (same_dotted k) (flat_map (entries_of P) qs)
value_in_strings P k v [] some bound is among = cc
value_in_strings P k v (q ∷ qs) some bound is among =
    elim (pointwise nat_eq k.0 q) as (λ b. pointwise nat_eq k.0 q ≡ b → (b || list_any (pointwise nat_eq k.0) qs) ≡ true
    → v ≤ greatest_value (same_dotted k) (entries_of P q ++ flat_map (entries_of P) qs)) [
      | true ↦ λ same there.
          let one : k.0 ≡ q = equal_signs k.0 q (equal_is _ (sym (texts_ties k.0 q) ∙ same)) in
          let here : v ≤ greatest_value (same_dotted k) (entries_of P q) = subst (λ x. v ≤ greatest_value (same_dotted k) (entries_of P x)) one (value_of_string P k.0 k.1 v some bound is) in
          within_of _ _ _ here (best_left (same_dotted k) (entries_of P q) (flat_map (entries_of P) qs))
      | false ↦ λ other further. within_of _ _ _ (value_in_strings P k v qs some bound is further) (best_right (same_dotted k) (entries_of P q) (flat_map (entries_of P) qs))
    ] refl among

value_low : (P : Patterns) (k : List ℕ × ℕ) → list_all is_entry P ≡ true → value_of P k ≤ greatest_value (same_dotted k) (flat_map (entries_of P) (strings_by P))
value_low P k sound =
    elim (find dotted_cmp k P) as (λ o. find dotted_cmp k P ≡ o → unwrap_or o 0 ≤ greatest_value (same_dotted k) (flat_map (entries_of P) (strings_by P))) [
      | None ↦ λ is. omega arith
      | Some v ↦ λ is.
          let bounds = entry_bounds (k, v) (found_entry P k v sound is) in
          value_in_strings P k v (strings_by P) bounds.some bounds.dot is (string_among P k v is)
    ] refl

same_number : (a b : ℕ) → a ≤ b → b ≤ a → a ≡ b
same_number a b p q = omega arith

-- the entries of the strings of a map, joined, are the map
pub joined_strings : (P : Patterns) → IsPatternMap P → map_of_entries (flat_map (entries_of P) (strings_by P)) ≡ P
joined_strings P map =
    let es = flat_map (entries_of P) (strings_by P) in
    let of : All (IsOf P) es = strings_are_of P (strings_by P) in
    let each : All (λ (e : (List ℕ × ℕ) × ℕ). is_entry e ≡ true) es = All-weaker (IsOf P) (λ (e : (List ℕ × ℕ) × ℕ). is_entry e ≡ true) (λ e is. found_entry P e.0 e.1 map.sound is) es of in
    same_maps (map_of_entries es) P (joined_keeps es (told_all es each)) map
    (λ k. value_of_joined es k ∙ same_number _ _ (best_upto (same_dotted k) es (value_of P k) (all_upto_value P es k of)) (value_low P k map.sound))
