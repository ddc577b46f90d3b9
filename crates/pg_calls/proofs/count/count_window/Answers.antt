use Rattle.std.proofs.Common.{◌≡◌, ℕ, ◌+◌, ◌≤◌, Bool, true, false, cond, List, Some, unwrap_or, sym, ap, subst, ◌∙◌, arith}
use Rattle.std.specs.Cmp.Lexicographic.{nat_list_cmp_total}
use Rattle.std.specs.FinMap.Entries.{find, find-put}
use Rattle.pg_cells.proofs.StringMaps.{order, same_string}
use Rattle.pg_types.specs.Inside.counting.Counts.{Counts, sums_of, with_weight, with_count}
use Rattle.pg_count.specs.Inside.Counting.{Counting}
use Rattle.pg_calls.proofs.count.count_window.Goals as goal

-- both sums are at most n
abbrev AtMost : ℕ → ℕ × ℕ → Type 0
AtMost n sums = (sums.0 ≤ n) × (sums.1 ≤ n)

one_more : (n weight : ℕ) (good : Bool) (sums : ℕ × ℕ) → weight ≤ 9 → AtMost n sums → AtMost (n + 9) (with_weight sums good weight)
one_more n weight true sums few low = let first : sums.0 ≤ n = low.0 in let second : sums.1 ≤ n = low.1 in (omega arith, omega arith)
one_more n weight false sums few low = let first : sums.0 ≤ n = low.0 in let second : sums.1 ≤ n = low.1 in (omega arith, omega arith)

-- a weight adds at most 9 to each sum
room_more : (C D : Counts) (window : List ℕ) (good : Bool) (n weight : ℕ) → weight ≤ 9 → ((u : List ℕ) → AtMost n (sums_of C u)) → D ≡ with_count C window good weight
    → (u : List ℕ) → AtMost (n + 9) (sums_of D u)
room_more C D window good n weight few room is u =
    let there : sums_of D u ≡ unwrap_or (cond (same_string u window) (Some (with_weight (sums_of C window) good weight)) (find order u C)) (0, 0) =
    ap (λ x. sums_of x u) is ∙ ap (λ o. unwrap_or o (0, 0)) (find-put order nat_list_cmp_total u window (with_weight (sums_of C window) good weight) C) in
    subst (AtMost (n + 9)) (sym there) (by_window (same_string u window))
  where
    by_window : (t : Bool) → AtMost (n + 9) (unwrap_or (cond t (Some (with_weight (sums_of C window) good weight)) (find order u C)) (0, 0))
    by_window true = one_more n weight good (sums_of C window) few (room window)
    by_window false = let first : (sums_of C u).0 ≤ n = (room u).0 in let second : (sums_of C u).1 ≤ n = (room u).1 in (omega arith, omega arith)

pub returns-clause-room : goal.returns-clause-room
returns-clause-room c = λ n room. room_more c.args.counts.now.counts c.add.new.self.counts c.args.window.now c.args.good n c.args.weight
    (omega arith) room (ap (λ (d : Counting). d.counts) c.in_ok-add.ensures.ok)
