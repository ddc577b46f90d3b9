use Rattle.std.proofs.Common.{sym, subst, arith}
use Rattle.pg_cells.specs.Inside.store.CellRows.{row_of}
use Rattle.pg_cells.specs.Inside.store.BlockedBases.{AreBlocked}
use Rattle.pg_cells.proofs.store.Store.sought_from.Goals as goal

pub returns-then-base-self : goal.returns-then-base-self
returns-then-base-self g c =
    subst (λ r. AreBlocked r c.args.base c.self.inside.sought) c.self.view_is
    (subst (λ b. AreBlocked (row_of c.self.inside.cells.items) b c.self.inside.sought) (sym c.if-base-self.true) c.self.invariant.blocked)

pub returns-else-base-self : goal.returns-else-base-self
returns-else-base-self g c = λ k from lt. absurd (omega arith)
