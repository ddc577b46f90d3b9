-- What is known when all rounds are done.
use Rattle.std.specs.Prelude.{◌≡◌, ℕ, List, length}
use Rattle.pg_patterns.specs.Values.{Patterns}
use Rattle.pg_prune.specs.declared.rounds.KeptEntries.{KeptEntries}
use Rattle.pg_prune.specs.Inside.positions.PositionInReach.{PositionInReach}
use Rattle.pg_prune.specs.Prunes.{rounds_from}
use Rattle.pg_prune.specs.Inside.rounds.Picks.{picked_entries, IsKeptSoFar}

-- these are the entries that all rounds leave, and the holders are theirs
pub record AreAllRounds (positions : List PositionInReach) (P : Patterns)
    (stands : List (List ℕ)) (holders : List (List ℕ)) (f : KeptEntries) : Type 0 where
  pub ready : IsKeptSoFar positions P stands holders f.kept.items
  pub done : rounds_from positions P 1 (length P) P ≡ (picked_entries P f.kept.items, f.count)
