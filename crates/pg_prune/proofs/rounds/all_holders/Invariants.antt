use Rattle.std.proofs.Common.{List, map, take}
use Rattle.pg_prune.specs.Inside.positions.PositionInReach.{PositionInReach}
use Rattle.pg_prune.specs.Inside.rounds.Picks.{ListsPositions}
use Rattle.pg_prune.specs.Inside.rounds.Turns.{IsTallied}
use Rattle.pg_prune.proofs.rounds.all_holders.Given as goal

abbrev pub invariant-entries : goal.invariant-entries
invariant-entries l = (positions : List PositionInReach) → ListsPositions positions l.patterns (map (λ s. s.items) l.standing) l.count
    → IsTallied positions (take l.i l.patterns) l.holders.items
