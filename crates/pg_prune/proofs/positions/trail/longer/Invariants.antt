use Rattle.std.proofs.Common.{◌≡◌, take}
use Rattle.std.specs.List.{filter}
use Rattle.pg_prune.specs.Inside.positions.Trails.{continues_with as continues_with_by}
use Rattle.pg_prune.proofs.positions.trail.longer.Given as goal

abbrev pub invariant-starts : goal.invariant-starts
invariant-starts l = l.found.items ≡ filter (continues_with_by l.dictionary l.len l.sign) (take l.start-index l.starts)
