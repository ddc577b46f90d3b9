use Rattle.std.proofs.Common.{◌+◌, ◌≤◌, List, map, length}
use Rattle.pg_prune.specs.Inside.positions.PositionInReach.{PositionInReach}
use Rattle.pg_prune.specs.Inside.rounds.Picks.{HasAllEntries}
use Rattle.pg_prune.proofs.rounds.AllRounds.{RoundsSoFar}
use Rattle.pg_prune.proofs.rounds.all_rounds.Given as goal

abbrev pub invariant-rounds : goal.invariant-rounds
invariant-rounds g l = (l.count + length l.kept.items ≤ length l.initial.kept.items)
    × ((positions : List PositionInReach) → HasAllEntries positions l.patterns (map (λ s. s.items) l.standing) l.initial.holders
    → RoundsSoFar positions l.patterns (map (λ s. s.items) l.standing) l.holders l.kept.items l.count)

abbrev pub decreases-rounds : goal.decreases-rounds
decreases-rounds g l = length l.kept.items
