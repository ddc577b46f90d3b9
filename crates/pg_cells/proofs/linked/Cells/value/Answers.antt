use Rattle.std.proofs.Common.{◌≡◌, Some, sym, subst}
use Rattle.std.specs.FinMap.{find}
use Rattle.pg_types.specs.Inside.Placing.{cell_of}
use Rattle.pg_cells.specs.Inside.linked.ValuedFamilies.{ValuedFamilies}
use Rattle.pg_cells.proofs.StringMaps.{order}
use Rattle.pg_cells.proofs.Unlinked.{found_plain}
use Rattle.pg_cells.proofs.linked.Cells.value.Goals as goal

pub returns : goal.returns
returns g c q e =
    let at = subst (λ (h : ValuedFamilies g.row.V.Denot). cell_of h.families q ≡ Some c.args.cell) (sym c.self.view_is) e in
    subst (λ (h : ValuedFamilies g.row.V.Denot). find order q h.values ≡ Some c.value.result.value) c.self.view_is
    (found_plain q c.value.result c.self.inside.placed.values (c.value.ensures.value q at))
