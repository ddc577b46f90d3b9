use Rattle.std.proofs.Common.{◌≡◌, take}
use Rattle.pg_prune.specs.Inside.rounds.Picks.{picked_entries}
use Rattle.pg_prune.proofs.rounds.kept_patterns.kept_patterns.Given as goal

abbrev pub invariant-entries : goal.invariant-entries
invariant-entries l = l.entries.items ≡ picked_entries l.patterns (take l.i-index l.kept)
