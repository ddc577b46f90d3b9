-- The greatest of numbers, in one fold and one after the other.
use Rattle.std.proofs.Common.{◌≡◌, ℕ, max, Bool, true, false, nat_eq, List, [], ◌∷◌, ◌++◌, length, map, filter, fold, flat_map, refl, sym, arith}
use Rattle.std.specs.Prelude.{if◌then◌else◌}
use Rattle.std.specs.List.{range_with_len}
use Rattle.std.proofs.lemmas.List.Sums.{fold-append}
use Rattle.pg_types.specs.declared.limits.TheConstants.{PATTERN_SIGNS_MAX}
use Rattle.pg_table.specs.Lookups.{lookup, table_entry, value_from, table_value}
use Rattle.pg_table.specs.Inside.view.Greatest.{value_in_list, greatest}

-- the greatest of numbers and one more
fold_max : (a : ℕ) (xs : List ℕ) → fold max a xs ≡ max a (fold max 0 xs)
fold_max a [] = omega arith
fold_max a (x ∷ xs) =
    let all : fold max (max a x) xs ≡ max (max a x) (fold max 0 xs) = fold_max (max a x) xs in
    let own : fold max (max 0 x) xs ≡ max (max 0 x) (fold max 0 xs) = fold_max (max 0 x) xs in
    omega (arith, all, own)

-- of numbers that a function gives
greatest_as : (f : ℕ → ℕ) (xs : List ℕ) → greatest f xs ≡ fold max 0 (map f xs)
greatest_as f [] = refl
greatest_as f (x ∷ xs) =
    let rest : greatest f xs ≡ fold max 0 (map f xs) = greatest_as f xs in
    let own : fold max (max 0 (f x)) (map f xs) ≡ max (max 0 (f x)) (fold max 0 (map f xs)) = fold_max (max 0 (f x)) (map f xs) in
    omega (arith, rest, own)

-- of lists of numbers
lists_as : (g : ℕ → ℕ → ℕ) (ns is : List ℕ) → greatest (λ i. greatest (g i) ns) is ≡ fold max 0 (flat_map (λ i. map (g i) ns) is)
lists_as g ns [] = refl
lists_as g ns (i ∷ is) =
    let all : List ℕ = flat_map (λ i. map (g i) ns) is in
    let first : greatest (g i) ns ≡ fold max 0 (map (g i) ns) = greatest_as (g i) ns in
    let rest : greatest (λ i. greatest (g i) ns) is ≡ fold max 0 all = lists_as g ns is in
    let both : fold max 0 (map (g i) ns ++ all) ≡ fold max (fold max 0 (map (g i) ns)) all = fold-append max 0 (map (g i) ns) all in
    let own : fold max (fold max 0 (map (g i) ns)) all ≡ max (fold max 0 (map (g i) ns)) (fold max 0 all) = fold_max (fold max 0 (map (g i) ns)) all in
    omega (arith, first, rest, both, own)

-- and of the values at a dot
values_as : (d : ℕ) (xs : List (ℕ × ℕ)) → value_in_list d xs ≡ fold max 0 (map (λ x. x.0) (filter (λ x. nat_eq x.1 d) xs))
values_as d [] = refl
values_as d (x ∷ xs) = by_dot (nat_eq x.1 d) (values_as d xs)
  where
    kept : List (ℕ × ℕ)
    kept = filter (λ x. nat_eq x.1 d) xs

    by_dot : (there : Bool) → value_in_list d xs ≡ fold max 0 (map (λ x. x.0) kept) → max (if there then x.0 else 0) (value_in_list d xs)
        ≡ fold max 0 (map (λ (x : ℕ × ℕ). x.0) (if there then x ∷ kept else kept))
    by_dot true rest =
        let own : fold max (max 0 x.0) (map (λ (x : ℕ × ℕ). x.0) kept) ≡ max (max 0 x.0) (fold max 0 (map (λ (x : ℕ × ℕ). x.0) kept)) = fold_max (max 0 x.0) (map (λ (x : ℕ × ℕ). x.0) kept) in
        omega (arith, rest, own)
    by_dot false rest = omega (arith, rest)

-- the value of a string, and of a position
pub entry_as : (b q : List ℕ) (d : ℕ) → table_entry b q d ≡ value_in_list d (lookup b q)
entry_as b q d = sym (values_as d (lookup b q))

pub value_as : (b w : List ℕ) (p : ℕ) → table_value b w p ≡ greatest (λ i. greatest (value_from b w p i) (range_with_len 1 PATTERN_SIGNS_MAX)) (range_with_len 0 (length w))
unfolding table_value
value_as b w p = sym (lists_as (value_from b w p) (range_with_len 1 PATTERN_SIGNS_MAX) (range_with_len 0 (length w)))
