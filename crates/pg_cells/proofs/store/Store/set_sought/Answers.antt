use Rattle.std.proofs.Common.{sym, subst}
use Rattle.pg_cells.specs.Inside.store.BlockedBases.{AreBlocked}
use Rattle.pg_cells.proofs.store.Store.set_sought.Goals as goal

pub invariant_of-self : goal.invariant_of-self
invariant_of-self g c = record {
  kept = c.self.invariant.kept;
  sets = c.self.invariant.sets;
  few = c.self.invariant.few;
  bounds = c.self.invariant.bounds;
  blocked = subst (λ r. AreBlocked r c.args.base c.args.low) (sym c.self.view_is) c.requires;
}

pub returns : goal.returns
returns g c = c.self.view_is
