use Rattle.std.proofs.Common.{◌≡◌, Some, sym, subst}
use Rattle.pg_types.specs.Inside.Placing.{cell_of}
use Rattle.pg_cells.specs.Inside.linked.ValuedFamilies.{ValuedFamilies}
use Rattle.pg_cells.specs.Inside.linked.AreValuedFamilies.{AreValuedFamilies}
use Rattle.pg_cells.specs.Inside.linked.CellValues.{HasBase}
use Rattle.pg_cells.proofs.Unlinked.{held_unlinked}
use Rattle.pg_cells.proofs.Walking.{none_below, some_below}
use Rattle.pg_cells.proofs.linked.Cells.child.Goals as goal

pub returns-clause-base : goal.returns-clause-base
returns-clause-base g c q e =
    let at = subst (λ (h : ValuedFamilies g.row.V.Denot). cell_of h.families q ≡ Some c.args.cell) (sym c.self.view_is) e in
    subst (λ (h : ValuedFamilies g.row.V.Denot). HasBase h.families q c.child.result) c.self.view_is (c.child.ensures.base q at)

pub returns-clause-none : goal.returns-clause-none
returns-clause-none g c q e none x =
    let told = subst (λ (h : ValuedFamilies g.row.V.Denot). AreValuedFamilies h) c.self.view_is (held_unlinked c.self.inside.placed c.self.invariant.held) in
    none_below c.args.self.now told q c.child.result (returns-clause-base g c q e) none x

pub returns-clause-some : goal.returns-clause-some
returns-clause-some g c q e up =
    let told = subst (λ (h : ValuedFamilies g.row.V.Denot). AreValuedFamilies h) c.self.view_is (held_unlinked c.self.inside.placed c.self.invariant.held) in
    some_below c.args.self.now told q c.child.result (returns-clause-base g c q e) up
