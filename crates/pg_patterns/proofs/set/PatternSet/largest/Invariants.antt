use Rattle.std.proofs.Common.{◌≡◌, max, drop}
use Rattle.pg_patterns.specs.Values.{largest}
use Rattle.pg_patterns.proofs.set.PatternSet.largest.Given as goal

abbrev pub invariant-loop-entry : goal.invariant-loop-entry
invariant-loop-entry l = max l.largest (largest (drop l.entry-index l.entry-items)) ≡ largest l.entry-items
