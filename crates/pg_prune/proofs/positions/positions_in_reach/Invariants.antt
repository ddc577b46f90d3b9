use Rattle.std.proofs.Common.{◌≡◌, ◌++◌, ◌+◌, map, drop}
use Rattle.pg_prune.specs.Positions.{positions_in_reach}
use Rattle.pg_prune.specs.Inside.positions.WordPositions.{positions_from}
use Rattle.pg_prune.specs.Inside.positions.PositionInReach.{need_at}
use Rattle.pg_prune.proofs.positions.positions_in_reach.Given as goal

abbrev pub invariant-words : goal.invariant-words
invariant-words l = l.all.items ++ map need_at (positions_from l.table (l.i + 1) (drop l.i l.dictionary)) ≡ map need_at (positions_in_reach l.table l.dictionary)
