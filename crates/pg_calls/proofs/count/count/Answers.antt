use Rattle.std.proofs.Common.{◌≡◌, ℕ, ◌+◌, ◌*◌, ◌≤◌, List, subst, ◌∙◌, arith}
use Rattle.pg_types.specs.Inside.counting.Counts.{sums_of}
use Rattle.pg_calls.proofs.count.count.Goals as goal

nine_more : (i : ℕ) → 9 * i + 9 ≡ 9 * (i + 1)
nine_more i = omega arith

pub loop-row-preserved : goal.loop-row-preserved
loop-row-preserved c = record {
  signs = c.count_window.ensures.signs;
  len = c.count_window.ensures.len ∙ c.loop-row.invariant.len;
  room = subst (λ n. (u : List ℕ) → ((sums_of c.count_window.new.counts.counts u).0 ≤ n) × ((sums_of c.count_window.new.counts.counts u).1 ≤ n))
      (nine_more c.loop-row.row-index) (c.count_window.ensures.room (9 * c.loop-row.row-index) c.loop-row.invariant.room);
}
