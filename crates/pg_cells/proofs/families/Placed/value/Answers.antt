use Rattle.std.proofs.Common.{◌≡◌, Some, sym, subst}
use Rattle.std.specs.FinMap.{find}
use Rattle.pg_types.specs.Inside.Placing.{cell_of}
use Rattle.pg_cells.specs.Inside.linked.ValuedFamilies.{ValuedFamilies}
use Rattle.pg_cells.specs.declared.store.member.Member.{Member}
use Rattle.pg_cells.proofs.StringMaps.{order}
use Rattle.pg_cells.proofs.StringCells.{cell_taken, value_is}
use Rattle.pg_cells.proofs.families.Placed.value.Goals as goal

pub value-requires : goal.value-requires
value-requires g c = cell_taken c.self.inside.signs c.self.inside.store c.self.inside.layout.0 c.self.invariant.trie c.requires.0 c.args.cell
    (subst (λ (h : ValuedFamilies (Member g.row.V.Denot)). cell_of h.families c.requires.0 ≡ Some c.args.cell) (sym c.self.view_is) c.requires.1)

pub returns-clause-value : goal.returns-clause-value
returns-clause-value g c q e =
    subst (λ (h : ValuedFamilies (Member g.row.V.Denot)). find order q h.values ≡ Some c.value.result) c.self.view_is
    (value_is c.self.inside.signs c.self.inside.store c.self.inside.layout.0 c.self.invariant.trie q c.args.cell c.value.result
    (subst (λ (h : ValuedFamilies (Member g.row.V.Denot)). cell_of h.families q ≡ Some c.args.cell) (sym c.self.view_is) e) c.value.ensures.value)

pub returns-clause-fits : goal.returns-clause-fits
returns-clause-fits g c = c.value.ensures.fits
