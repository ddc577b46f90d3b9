use Rattle.std.proofs.Common.{subst}
use Rattle.pg_cells.specs.Inside.linked.ValuedFamilies.{ValuedFamilies}
use Rattle.pg_cells.specs.Inside.linked.AreValuedFamilies.{AreValuedFamilies}
use Rattle.pg_cells.proofs.Unlinked.{held_unlinked}
use Rattle.pg_cells.proofs.linked.Cells.signs.Goals as goal

pub returns-clause-held : goal.returns-clause-held
returns-clause-held g c = subst (λ (h : ValuedFamilies g.row.V.Denot). AreValuedFamilies h) c.self.view_is (held_unlinked c.self.inside.placed c.self.invariant.held)
