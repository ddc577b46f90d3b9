use Rattle.std.proofs.Common.{◌≡◌, ◌+◌, ◌≤◌}
use Rattle.pg_types.specs.Parameters.{items}
use Rattle.pg_types.specs.Inside.reading.Demands.{first_due, unmet_from}
use Rattle.pg_types.proofs.DemandLaws.{numbers_due, IsDue}
use Rattle.pg_types.proofs.demands.first_unmet.Given as goal

abbrev pub invariant-items : goal.invariant-items
invariant-items l = record {
  left : unmet_from (items l.items.rest.now) l.items.item_number l.due ≡ unmet_from (items l.bytes) 1 first_due;
  few : l.items.item_number + numbers_due l.due.parameter l.due ≤ 53;
  due : IsDue l.due;
}

abbrev pub decreases-items : goal.decreases-items
decreases-items l = numbers_due l.due.parameter l.due
