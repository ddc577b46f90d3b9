use Rattle.std.proofs.Common.{◌≡◌, take}
use Rattle.std.specs.List.{filter_map}
use Rattle.pg_prune.specs.Inside.positions.Trails.{number_at_dot as number_by}
use Rattle.pg_prune.proofs.positions.trail.standing.Given as goal

abbrev pub invariant-starts : goal.invariant-starts
invariant-starts l = l.numbers.items ≡ filter_map (number_by l.table l.dictionary l.dot) (take l.start-index l.starts)
