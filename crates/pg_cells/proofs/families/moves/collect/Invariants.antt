use Rattle.std.proofs.Common.{◌≡◌, ◌+◌, nat_eq, []}
use Rattle.pg_cells.specs.Inside.store.CellRows.{sign_at}
use Rattle.pg_cells.specs.Inside.linked.Members.{ArePassing, number_before}
use Rattle.pg_cells.specs.Inside.families.Moves.{AllFit, AreSlotsOf}
use Rattle.pg_cells.proofs.families.moves.collect.Given as goal

abbrev pub invariant-loop-sign : goal.invariant-loop-sign
invariant-loop-sign g l = record {
  none : l.members ≡ [] → l.slots.items ≡ [];
  some : ArePassing (λ x. nat_eq (sign_at l.store (l.base + x)) x) l.members → AreSlotsOf (number_before l.members l.sign-index) l.store l.base l.slots.items;
  fits : AllFit l.slots.items;
}
