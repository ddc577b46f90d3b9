use Rattle.std.proofs.Common.{◌≡◌, ℕ, ◌<◌, ◌≤◌, get_or}
use Rattle.pg_cells.specs.Inside.store.Bounds.{IsBelowBounds}
use Rattle.pg_cells.proofs.store.bounds.lower.Given as goal

abbrev pub invariant-loop-sign : goal.invariant-loop-sign
invariant-loop-sign l = record {
  below : (s b : ℕ) → s < l.sign → b < get_or l.lows s 0 → IsBelowBounds l.initial.lows l.freed l.dropped s b;
  above : (s : ℕ) → l.sign ≤ s → get_or l.lows s 0 ≡ get_or l.initial.lows s 0;
}
