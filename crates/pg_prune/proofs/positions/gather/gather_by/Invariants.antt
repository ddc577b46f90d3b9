use Rattle.std.proofs.Common.{◌≡◌, take, map}
use Rattle.pg_prune.specs.Positions.{positions_in_reach as positions_of}
use Rattle.pg_prune.specs.Inside.positions.EntryPositions.{positions_of_entries}
use Rattle.pg_prune.specs.Inside.positions.Trails.{IsTrail}
use Rattle.pg_prune.proofs.positions.gather.gather_by.Given as goal

abbrev pub invariant-entries : goal.invariant-entries
invariant-entries l = record {
  trail : IsTrail l.dictionary l.all l.trail.signs.items (map (λ t. t.items) l.trail.starts.items);
  lists : map (λ t. t.items) l.lists.items ≡ positions_of_entries (positions_of l.table l.dictionary) (take l.i l.patterns);
}
