use Rattle.std.proofs.Common.{drop}
use Rattle.pg_prune.specs.Inside.positions.EntryPositions.{stands}
use Rattle.pg_prune.specs.Inside.rounds.Holders.{holder_counts}
use Rattle.pg_prune.specs.Inside.rounds.Turns.{Turn, with_entry, without_entry, IsAwaited}
use Rattle.pg_prune.proofs.rounds.Walks.{WalkedSoFar}
use Rattle.pg_prune.proofs.rounds.add.Given as goal

abbrev pub invariant-positions : goal.invariant-positions
invariant-positions l = (turn : Turn) → IsAwaited turn l.initial.holders l.positions l.value
    → WalkedSoFar turn.positions (holder_counts (without_entry turn)) (holder_counts (with_entry turn)) (stands turn.entry) l.holders (drop l.position-index l.positions)
