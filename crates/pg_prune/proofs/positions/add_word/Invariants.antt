use Rattle.std.proofs.Common.{◌≡◌, ◌++◌, ◌-◌, map}
use Rattle.std.specs.List.{range_with_len}
use Rattle.pg_prune.proofs.positions.PositionSteps.{at_word}
use Rattle.pg_prune.proofs.positions.add_word.Given as goal

abbrev pub invariant-positions : goal.invariant-positions
invariant-positions l = l.all.items ++ map (at_word l.word) (range_with_len l.p (l.end - l.p)) ≡ l.initial.all.items ++ map (at_word l.word) (range_with_len l.first (l.end - l.first))
