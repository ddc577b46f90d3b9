use Rattle.std.proofs.Common.{◌≡◌, [], ◌∷◌, ◌++◌, Some, sym, subst, ◌∙◌}
use Rattle.pg_types.specs.Placement.{base_of}
use Rattle.pg_types.specs.Inside.Placing.{cell_of}
use Rattle.pg_cells.specs.Inside.linked.ValuedFamilies.{ValuedFamilies}
use Rattle.pg_cells.specs.Inside.linked.AreValuedFamilies.{AreValuedFamilies}
use Rattle.pg_cells.proofs.Unlinked.{held_unlinked}
use Rattle.pg_cells.proofs.Walking.{ends_before}
use Rattle.pg_cells.proofs.linked.Cells.find.Goals as goal

pub returns-clause-cell : goal.returns-clause-cell
returns-clause-cell g c p e =
    let has = subst (λ (h : ValuedFamilies g.row.V.Denot). base_of h.families p ≡ Some c.args.base) (sym c.self.view_is) e in
    subst (λ (h : ValuedFamilies g.row.V.Denot). c.find.result ≡ cell_of h.families (p ++ c.args.s ∷ [])) c.self.view_is (c.find.ensures.cell p has)

pub returns-clause-none : goal.returns-clause-none
returns-clause-none g c p e none =
    let told = subst (λ (h : ValuedFamilies g.row.V.Denot). AreValuedFamilies h) c.self.view_is (held_unlinked c.self.inside.placed c.self.invariant.held) in
    ends_before c.args.self.now told p c.args.s (sym (returns-clause-cell g c p e) ∙ none)
