use Rattle.std.proofs.Common.{drop, List, map}
use Rattle.pg_prune.specs.Inside.positions.PositionInReach.{PositionInReach}
use Rattle.pg_prune.specs.Inside.rounds.Picks.{IsKeptSoFar}
use Rattle.pg_prune.proofs.rounds.RoundSteps.{Rounding}
use Rattle.pg_prune.proofs.rounds.round.Given as goal

abbrev pub invariant-entries : goal.invariant-entries
invariant-entries l = (positions : List PositionInReach) → IsKeptSoFar positions l.patterns (map (λ s. s.items) l.standing) l.initial.holders l.kept
    → Rounding positions l.patterns l.kept l.holders l.stay.items (drop l.i-index l.kept)
