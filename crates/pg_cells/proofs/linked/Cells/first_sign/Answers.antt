use Rattle.std.proofs.Common.{◌≡◌, Some, sym, subst}
use Rattle.pg_types.specs.Inside.Placing.{cell_of}
use Rattle.pg_cells.specs.Inside.linked.ValuedFamilies.{ValuedFamilies}
use Rattle.pg_cells.specs.Inside.linked.Members.{IsNextSign, goes_on}
use Rattle.pg_cells.proofs.GivenMembers.{next_alike}
use Rattle.pg_cells.proofs.Unlinked.{plain, goes_plain}
use Rattle.pg_cells.proofs.linked.Cells.first_sign.Goals as goal

pub returns : goal.returns
returns g c q e =
    let es = c.self.inside.placed.values in
    let at = subst (λ (h : ValuedFamilies g.row.V.Denot). cell_of h.families q ≡ Some c.args.cell) (sym c.self.view_is) e in
    subst (λ (h : ValuedFamilies g.row.V.Denot). IsNextSign h.values q 0 c.value.result.first) c.self.view_is
    (next_alike (goes_on es q) (goes_on (plain es) q) 0 c.value.result.first (λ z up. goes_plain es q z) (c.self.invariant.first q c.value.result (c.value.ensures.value q at)))
