use Rattle.std.proofs.Common.{◌≡◌, drop}
use Rattle.pg_prune.specs.Inside.rounds.Holders.{greatest_value_from, greatest_held}
use Rattle.pg_prune.proofs.rounds.holders.Holders.greatest_held.Given as goal

abbrev pub invariant-counts : goal.invariant-counts
invariant-counts l = greatest_value_from l.best l.i (drop l.i l.self-inside.counts) ≡ greatest_held l.self-inside.counts
