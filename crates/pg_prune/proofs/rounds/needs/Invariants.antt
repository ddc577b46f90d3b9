use Rattle.std.proofs.Common.{◌≡◌, List, map}
use Rattle.pg_prune.specs.Inside.positions.PositionInReach.{PositionInReach, need_at}
use Rattle.pg_prune.specs.Inside.rounds.Picks.{IsKeptSoFar}
use Rattle.pg_prune.proofs.rounds.NeedSteps.{NeedsSoFar}
use Rattle.pg_prune.proofs.rounds.needs.Given as goal

abbrev pub invariant-entries : goal.invariant-entries
invariant-entries l = (all : List PositionInReach) → l.positions ≡ map need_at all → IsKeptSoFar all l.patterns (map (λ s. s.items) l.standing) l.holders l.kept
    → NeedsSoFar all l.patterns l.kept l.needs.items l.i-index
