-- How the counts stand in the tallies of the strings that have a cell.
use Rattle.std.proofs.Common.{◌≡◌, ℕ, ◌≤◌, inl, inr, true, false, cond, T, List, [], ◌∷◌, map, length, unwrap_or, is_some, Option, None, Some, refl, sym, ◌∙◌, ap, subst}
use Rattle.std.specs.Ordering.{is_lt}
use Rattle.std.specs.FinMap.Entries.{find, put, is_sorted, below_all}
use Rattle.pg_cells.specs.Inside.linked.Walks.{AddsBlanks}
use Rattle.pg_cells.proofs.StringMaps.{order, same_string, equal_or_not, same_maps, find_put_same, find_put_other, sorted_put, find_below, head_below, tail_sorted}
use Rattle.pg_types.specs.Inside.Signs.{SignsWithin}
use Rattle.pg_types.specs.Inside.counting.Counts.{is_counted, sums_of}
use Rattle.pg_count.specs.Inside.Counting.{Counting, IsCounting, Tallies, sums_at, counts_in}
use Rattle.pg_types.proofs.BoolFacts.{both_halves, first_half, second_half}

below_counts : (p : List ℕ) (ts : Tallies) → T (below_all order p ts) → T (below_all order p (counts_in ts))
below_counts p [] h = tt
below_counts p (e ∷ es) h =
    let rest = below_counts p es (second_half (is_lt (order p e.0)) (below_all order p es) h) in
    elim e.1 as (λ o. T (below_all order p (counts_in ((e.0, o) ∷ es)))) [
      | None ↦ rest
      | Some sums ↦ both_halves (is_lt (order p e.0)) (below_all order p (counts_in es)) (first_half (is_lt (order p e.0)) (below_all order p es) h) rest
    ]

pub is_sorted-counts_in : (ts : Tallies) → T (is_sorted order ts) → T (is_sorted order (counts_in ts))
is_sorted-counts_in [] h = tt
is_sorted-counts_in (e ∷ es) h =
    let rest = is_sorted-counts_in es (tail_sorted e es h) in
    elim e.1 as (λ o. T (is_sorted order (counts_in ((e.0, o) ∷ es)))) [
      | None ↦ rest
      | Some sums ↦ both_halves (below_all order e.0 (counts_in es)) (is_sorted order (counts_in es)) (below_counts e.0 es (head_below e es h)) rest
    ]

pub find-counts_in : (ts : Tallies) → T (is_sorted order ts) → (q : List ℕ) → find order q (counts_in ts) ≡ sums_at ts q
find-counts_in [] h q = refl
find-counts_in (e ∷ es) h q =
    let rest = find-counts_in es (tail_sorted e es h) q in
    elim (equal_or_not q e.0) [
      | inl same ↦
          let none : find order q es ≡ None = ap (λ x. find order x es) same.0 ∙ find_below e.0 es (head_below e es h) in
          elim e.1 as (λ o. find order q (counts_in ((e.0, o) ∷ es)) ≡ unwrap_or (cond (same_string q e.0) (Some o) (find order q es)) None) [
            | None ↦ rest ∙ ap (λ o. unwrap_or o None) none ∙ sym (ap (λ b. unwrap_or (cond b (Some None) (find order q es)) None) same.1)
            | Some sums ↦ ap (λ b. cond b (Some sums) (find order q (counts_in es))) same.1 ∙ sym (ap (λ b. unwrap_or (cond b (Some (Some sums)) (find order q es)) None) same.1)
          ]
      | inr other ↦
          elim e.1 as (λ o. find order q (counts_in ((e.0, o) ∷ es)) ≡ unwrap_or (cond (same_string q e.0) (Some o) (find order q es)) None) [
            | None ↦ rest ∙ sym (ap (λ b. unwrap_or (cond b (Some None) (find order q es)) None) other.1)
            | Some sums ↦ ap (λ b. cond b (Some sums) (find order q (counts_in es))) other.1 ∙ rest ∙ sym (ap (λ b. unwrap_or (cond b (Some (Some sums)) (find order q es)) None) other.1)
          ]
    ]

-- a string that is counted
pub counts_in-put : (ts : Tallies) (u : List ℕ) (sums : ℕ × ℕ) → T (is_sorted order ts) → counts_in (put order u (Some sums) ts) ≡ put order u sums (counts_in ts)
counts_in-put ts u sums h =
    let after = put order u (Some sums) ts in
    let sorted = sorted_put u (Some sums) ts h in
    same_maps (counts_in after) (put order u sums (counts_in ts)) (is_sorted-counts_in after sorted) (sorted_put u sums (counts_in ts) (is_sorted-counts_in ts h)) (λ q.
    find-counts_in after sorted q ∙ elim (equal_or_not q u) [
      | inl same ↦
          ap (λ x. sums_at after x) same.0 ∙ ap (λ o. unwrap_or o None) (find_put_same u (Some sums) ts)
          ∙ sym (find_put_same u sums (counts_in ts)) ∙ sym (ap (λ x. find order x (put order u sums (counts_in ts))) same.0)
      | inr other ↦
          ap (λ o. unwrap_or o None) (find_put_other q u (Some sums) ts other.0)
          ∙ sym (find-counts_in ts h q) ∙ sym (find_put_other q u sums (counts_in ts) other.0)
    ])

-- strings that are not counted change nothing
pub counts_in-blanks : (w : List ℕ) (old new : Tallies) → T (is_sorted order old) → T (is_sorted order new) → AddsBlanks w None old new → counts_in new ≡ counts_in old
counts_in-blanks w old new g h adds =
    same_maps (counts_in new) (counts_in old) (is_sorted-counts_in new h) (is_sorted-counts_in old g) (λ q.
    find-counts_in new h q ∙ by q (find order q old) refl ∙ sym (find-counts_in old g q))
  where
    by_new : (q : List ℕ) → find order q old ≡ None → (o : Option (Option (ℕ × ℕ))) → find order q new ≡ o → unwrap_or o None ≡ None
    by_new q none None is = refl
    by_new q none (Some tally) is = (adds.blanks q tally none is).0

    by : (q : List ℕ) (o : Option (Option (ℕ × ℕ))) → find order q old ≡ o → sums_at new q ≡ sums_at old q
    by q None is = by_new q is (find order q new) refl ∙ sym (ap (λ o. unwrap_or o None) is)
    by q (Some tally) is = ap (λ o. unwrap_or o None) (adds.keeps q tally is) ∙ sym (ap (λ o. unwrap_or o None) is)

-- the root alone counts nothing
pub counts_in-root : (xs : List ℕ) → counts_in (map (λ x. (x ∷ [], None)) xs) ≡ []
counts_in-root [] = refl
counts_in-root (x ∷ xs) = counts_in-root xs

-- the sums of a string that has a cell
pub sums_told : (ts : Tallies) (u : List ℕ) (tally : Option (ℕ × ℕ)) → T (is_sorted order ts) → find order u ts ≡ Some tally → sums_of (counts_in ts) u ≡ unwrap_or tally (0, 0)
sums_told ts u tally h there = ap (λ o. unwrap_or o (0, 0)) (find-counts_in ts h u ∙ ap (λ o. unwrap_or o None) there)

-- a string without a cell is not counted
pub not_counted : (ts : Tallies) (u : List ℕ) → T (is_sorted order ts) → find order u ts ≡ None → is_counted (counts_in ts) u ≡ true → ⊥
not_counted ts u h none counted =
    let no : is_counted (counts_in ts) u ≡ false = ap is_some (find-counts_in ts h u ∙ ap (λ o. unwrap_or o None) none) in
    let wrong : true ≡ false = sym counted ∙ no in
    cc

-- where nothing is counted
pub counting_none : (signs len : ℕ) → 1 ≤ len → len ≤ 15 → IsCounting (record { signs = signs; len = len; counts = [] })
counting_none signs len some most = record { some = some; len = most; sorted = tt; windows = λ u h. cc; signs = λ u h. absurd (let wrong : false ≡ true = h in cc) }

-- a window more
pub counting_put : (c : Counting) → IsCounting c → (u : List ℕ) (sums : ℕ × ℕ) → length u ≡ c.len → SignsWithin c.signs u → IsCounting (record c { counts = put order u sums c.counts })
counting_put c is u sums size within = record {
  some = is.some;
  len = is.len;
  sorted = sorted_put u sums c.counts is.sorted;
  windows = λ q h. elim (equal_or_not q u) [
    | inl same ↦ ap length same.0 ∙ size
    | inr other ↦ is.windows q (ap is_some (sym (find_put_other q u sums c.counts other.0)) ∙ h)
  ];
  signs = λ q h. elim (equal_or_not q u) [
    | inl same ↦ subst (SignsWithin c.signs) (sym same.0) within
    | inr other ↦ is.signs q (ap is_some (sym (find_put_other q u sums c.counts other.0)) ∙ h)
  ];
}
