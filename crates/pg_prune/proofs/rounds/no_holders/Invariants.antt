use Rattle.std.proofs.Common.{◌≡◌}
use Rattle.std.specs.Prelude.{replicate}
use Rattle.pg_prune.proofs.rounds.no_holders.Given as goal

abbrev pub invariant-positions : goal.invariant-positions
invariant-positions l = l.holders.items ≡ replicate l.counter (replicate 9 0)
