use Rattle.std.proofs.Common.{drop}
use Rattle.pg_prune.specs.Prunes.{break_alike_at}
use Rattle.pg_prune.specs.Inside.positions.EntryPositions.{stands}
use Rattle.pg_prune.specs.Inside.rounds.Turns.{Turn, with_entry, without_entry, IsHeld}
use Rattle.pg_prune.proofs.rounds.TurnLaws.{SearchedSoFar}
use Rattle.pg_prune.proofs.rounds.first_need.Given as goal

abbrev pub invariant-positions : goal.invariant-positions
invariant-positions l = (turn : Turn) → IsHeld turn l.holders l.positions l.value
    → SearchedSoFar turn.positions (break_alike_at (with_entry turn) (without_entry turn)) (stands turn.entry) (drop l.position-index l.positions)
