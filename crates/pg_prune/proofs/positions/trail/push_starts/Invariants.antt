use Rattle.std.proofs.Common.{◌≡◌, ◌++◌}
use Rattle.pg_prune.specs.Inside.positions.Trails.{starts_in}
use Rattle.pg_prune.proofs.positions.trail.push_starts.Given as goal

abbrev pub invariant-signs : goal.invariant-signs
invariant-signs l = l.starts.items ≡ l.fn.starts.items ++ starts_in l.word l.before l.at
