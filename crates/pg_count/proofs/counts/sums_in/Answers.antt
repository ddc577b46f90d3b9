use Rattle.std.proofs.Common.{◌≡◌, ℕ, ◌+◌, ◌<◌, List, [], ◌∷◌, ◌++◌, length, get_or, take, drop, unwrap_or, Option, None, refl, sym, ap, ◌∙◌}
use Rattle.std.specs.FinMap.Entries.{find}
use Rattle.std.proofs.lemmas.List.{take_more, take-append-drop}
use Rattle.pg_cells.specs.Inside.linked.Walks.{EndsBefore}
use Rattle.pg_cells.proofs.StringMaps.{order}
use Rattle.pg_count.specs.Inside.Counting.{Tallies, sums_at}
use Rattle.pg_count.proofs.counts.sums_in.Goals as goal

-- a string of which a front has no value is not counted
front_ends : (ts : Tallies) (w : List ℕ) (i : ℕ) → i < length w → EndsBefore ts (take i w ++ get_or w i 0 ∷ []) → sums_at ts w ≡ None
front_ends ts w i within ends =
    let whole : w ≡ (take i w ++ get_or w i 0 ∷ []) ++ drop (i + 1) w = sym (take-append-drop (i + 1) w) ∙ ap (λ (u : List ℕ). u ++ drop (i + 1) w) (take_more w i 0 within) in
    ap (λ (o : Option (Option (ℕ × ℕ))). unwrap_or o None) (ap (λ (u : List ℕ). find order u ts) whole ∙ ends (drop (i + 1) w))

pub returns-in_err-step : goal.returns-in_err-step
returns-in_err-step c =
    rw c.from_residual.ensures (sym (front_ends c.args.cells.now.values c.args.signs.now c.loop-s.s-index c.loop-s-test.true (c.in_err-step.ensures.none (take c.loop-s.s-index c.args.signs.now) c.loop-s.invariant refl)))
