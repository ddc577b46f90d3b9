-- Dotted strings that are entered into a map.
use Rattle.std.proofs.Common.{◌≡◌, ℕ, Bool, ◌+◌, ◌≤◌, true, List, [], ◌++◌, length, take, max, Option, Some, None, unwrap_or, slice_get, sym, refl, ap, subst, ◌∙◌, arith, add-one}
use Rattle.std.proofs.lemmas.Bool.{leb-true, le-leb, and_from}
use Rattle.std.proofs.lemmas.List.{append-nil}
use Rattle.std.specs.BTreeMap.{insert_entry}
use Rattle.std.specs.FinMap.Entries.{put, find}
use Rattle.std.specs.List.{list_all}
use Rattle.pg_types.specs.Inside.Signs.{is_sign}
use Rattle.pg_patterns.specs.DottedSigns.{dotted_cmp}
use Rattle.pg_patterns.specs.Inside.DottedOrder.{dotted_total, dotted_exact}
use Rattle.pg_patterns.specs.Values.{Patterns, raise, value_of}
use Rattle.pg_patterns.specs.Inside.PatternMaps.{is_entry, IsPatternMap}
use Rattle.pg_plain.specs.Inside.Strings.{is_string}
use Rattle.pg_types.proofs.EntryLists.{insert-put, find_good, all_put, put_next}
use Rattle.pg_types.proofs.BoolFacts.{and_first, and_second}

-- a value that is raised in a map
pub raised_in : (P Q : Patterns) (k : List ℕ × ℕ) (v held n : ℕ) → held ≡ value_of P k → n ≡ max v held → Q ≡ insert_entry dotted_cmp P k n → Q ≡ raise P k v
raised_in P Q k v held n is greater entered =
    entered ∙ insert-put dotted_cmp k n P ∙ ap (λ x. put dotted_cmp k x P) (greater ∙ ap (λ x. max v x) is)

pub put_is : (H G : List ((List ℕ × ℕ) × Unit {0})) (k : List ℕ × ℕ) (x : Unit {0}) → G ≡ insert_entry dotted_cmp H k x → G ≡ put dotted_cmp k (tt {0}) H
put_is H G k x entered = entered ∙ insert-put dotted_cmp k x H

-- dotted strings that pass a test stay so
pub dotted_in : {X : Type 0} (good : List ℕ × ℕ → Bool) (M N : List ((List ℕ × ℕ) × X)) (k : List ℕ × ℕ) (v : X) → N ≡ insert_entry dotted_cmp M k v
    → list_all (λ e. good e.0) M ≡ true → good k ≡ true → list_all (λ e. good e.0) N ≡ true
dotted_in {X} good M N k v entered all new =
    subst (λ x. list_all (λ (e : (List ℕ × ℕ) × X). good e.0) x ≡ true) (sym (entered ∙ insert-put dotted_cmp k v M))
    (all_put dotted_cmp (λ (e : (List ℕ × ℕ) × X). good e.0) dotted_exact k v M new all)

greater_bounds : (v n : ℕ) → 1 ≤ v → v ≤ 9 → n ≤ 9 → (1 ≤ max v n) × (max v n ≤ 9)
greater_bounds v n some most low = (omega arith, omega arith)

-- the entry of a dotted string with the greater of two lawful values
greater_entry : (k : List ℕ × ℕ) (v n : ℕ) → is_entry (k, v) ≡ true → n ≤ 9 → is_entry (k, max v n) ≡ true
greater_entry k v n new low =
    let dotted = and_first _ _ (and_first _ _ new) in
    let some : 1 ≤ v = leb-true 1 v (and_second _ _ (and_first _ _ new)) in
    let most : v ≤ 9 = leb-true v 9 (and_second _ _ new) in
    let value = greater_bounds v n some most low in
    and_from _ _ (and_from _ _ dotted (le-leb 1 (max v n) value.0)) (le-leb (max v n) 9 value.1)

value_bound : (P : Patterns) (k : List ℕ × ℕ) → list_all is_entry P ≡ true → value_of P k ≤ 9
value_bound P k all = by_find (find dotted_cmp k P) refl
  where
    by_find : (o : Option ℕ) → find dotted_cmp k P ≡ o → unwrap_or o 0 ≤ 9
    by_find None is = omega arith
    by_find (Some v) is = leb-true v 9 (and_second _ _ (find_good dotted_cmp is_entry dotted_exact k v P is all))

-- the entries of a map of patterns stay so
pub entries_raise : (P : Patterns) (k : List ℕ × ℕ) (v : ℕ) → list_all is_entry P ≡ true → is_entry (k, v) ≡ true → list_all is_entry (raise P k v) ≡ true
entries_raise P k v all new =
    all_put dotted_cmp is_entry dotted_exact k (max v (value_of P k)) P (greater_entry k v (value_of P k) new (value_bound P k all)) all

-- the next entry of a map is entered behind those before it
pub entered_next : (P M N : List ((List ℕ × ℕ) × ℕ)) (i : ℕ) (k : List ℕ × ℕ) (v : ℕ) → IsPatternMap P → M ≡ take i P → slice_get P i ≡ Some (k, v) → N
    ≡ insert_entry dotted_cmp M k v → N ≡ take (i + 1) P
entered_next P M N i k v map same there entered =
    entered ∙ ap (λ x. insert_entry dotted_cmp x k v) same ∙ insert-put dotted_cmp k v (take i P) ∙ put_next dotted_cmp dotted_total k v P i map.sorted there ∙ ap (λ x. take x P) (sym (add-one i))

-- a counted window at a dot that is at most its length, with a level
pub window_entry : (u : List ℕ) (dot level len : ℕ) → length u ≡ len → list_all is_sign u ≡ true → 1 ≤ len → len ≤ 15 → dot ≤ len → 1 ≤ level → level ≤ 9 → is_entry ((u, dot), level) ≡ true
window_entry u dot level len size signs some few inside low high =
    and_from _ _ (and_from _ _ (and_from _ _ (and_from _ _ (and_from _ _ (le-leb 1 (length u) (omega arith)) (le-leb (length u) 32 (omega arith))) signs) (le-leb dot (length u) (omega arith)))
    (le-leb 1 level low)) (le-leb level 9 high)

pub window_string : (u : List ℕ) (dot len : ℕ) → length u ≡ len → 1 ≤ len → len ≤ 15 → is_string (u, dot) ≡ true
window_string u dot len size some few = and_from _ _ (le-leb 1 (length u) (omega arith)) (le-leb (length u) 32 (omega arith))

-- a list with nothing left behind it
pub whole : {X : Type 0} (xs rest es : List X) → xs ++ rest ≡ es → rest ≡ [] → xs ≡ es
whole xs rest es joined none = sym (append-nil xs) ∙ ap (λ r. xs ++ r) (sym none) ∙ joined
