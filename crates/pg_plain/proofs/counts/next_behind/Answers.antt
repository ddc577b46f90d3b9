use Rattle.std.proofs.Common.{◌≡◌, [], nat_cmp, refl, sym, ◌∙◌}
use Rattle.std.specs.Cmp.Lexicographic.{slice_cmp}
use Rattle.pg_types.proofs.EntryLists.{sorted_from}
use Rattle.pg_types.specs.Inside.counting.Counts.{windows_above}
use Rattle.pg_plain.proofs.Counted.{between_above, next_above}
use Rattle.pg_plain.proofs.counts.next_behind.Goals as goal

pub returns : goal.returns
returns c =
    next_above c.args.counts.now.entries c.next.new.self c.range-behind.result c.args.at.now c.set.new.self (c.in_ok-window.window.now, c.in_ok-window.sums.now)
    (sorted_from (slice_cmp nat_cmp) c.args.counts.now.entries c.range-behind.ensures.ordered) (c.range-behind.ensures.between tt) c.in_ok-window.ensures.steps (c.set.ensures ∙ c.signs.ensures.value)

pub returns-in_err-window : goal.returns-in_err-window
returns-in_err-window c =
    let none : windows_above c.args.at.now c.args.counts.now.entries ≡ [] =
    sym (between_above c.args.at.now c.args.counts.now.entries) ∙ sym (c.range-behind.ensures.between tt) ∙ c.in_err-window.ensures.steps.0 in
    rw c.from_residual.ensures (none, refl)
