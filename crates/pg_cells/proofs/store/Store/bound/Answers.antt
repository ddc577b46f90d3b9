use Rattle.std.proofs.Common.{subst}
use Rattle.pg_cells.specs.Inside.store.Bounds.{IsBelowBounds, NoneFree}
use Rattle.pg_cells.proofs.store.Store.bound.Goals as goal

pub returns : goal.returns
returns g c b up lt =
    subst (λ r. NoneFree r c.args.sign b) c.self.view_is
    (c.self.invariant.bounds c.args.sign b up (subst (λ lows. IsBelowBounds lows c.self.inside.freed c.self.inside.dropped c.args.sign b) c.as_slice.ensures.value (c.bound_of.ensures b lt)))
