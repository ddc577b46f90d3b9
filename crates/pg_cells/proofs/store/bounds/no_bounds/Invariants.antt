use Rattle.std.proofs.Common.{◌+◌, ◌-◌, ◌≤◌, length}
use Rattle.pg_cells.proofs.store.bounds.no_bounds.Given as goal

abbrev pub invariant-grow : goal.invariant-grow
invariant-grow l = length l.lows.items ≤ l.signs + 1

abbrev pub decreases-grow : goal.decreases-grow
decreases-grow l = l.signs + 1 - length l.lows.items
