use Rattle.std.proofs.Common.{◌≡◌, Some, None, ap, sym, subst, ◌∙◌, cond, nat_eq, ◌≤◌}
use Rattle.pg_types.specs.Placement.{base_of}
use Rattle.pg_types.specs.Inside.Placing.{cell_of}
use Rattle.pg_types.specs.declared.limits.TheConstants.{SIGNS_MAX}
use Rattle.pg_cells.specs.Inside.linked.ValuedFamilies.{ValuedFamilies}
use Rattle.pg_cells.specs.declared.store.member.Member.{Member}
use Rattle.pg_cells.proofs.StringCells.{cell_taken, child_is}
use Rattle.pg_cells.proofs.families.Placed.child.Goals as goal

pub child-requires : goal.child-requires
child-requires g c = cell_taken c.self.inside.signs c.self.inside.store c.self.inside.layout.0 c.self.invariant.trie c.requires.0 c.args.cell
    (subst (λ (h : ValuedFamilies (Member g.row.V.Denot)). cell_of h.families c.requires.0 ≡ Some c.args.cell) (sym c.self.view_is) c.requires.1)

pub returns : goal.returns
returns g c = record {
  base = λ q e.
      let is = child_is c.self.inside.signs c.self.inside.store c.self.inside.layout.0 c.self.invariant.trie q c.args.cell
      (subst (λ (h : ValuedFamilies (Member g.row.V.Denot)). cell_of h.families q ≡ Some c.args.cell) (sym c.self.view_is) e) in
      subst (λ (h : ValuedFamilies (Member g.row.V.Denot)). base_of h.families q ≡ cond (nat_eq c.child.result 0) None (Some c.child.result)) c.self.view_is
      (is ∙ ap (λ x. cond (nat_eq x 0) None (Some x)) (sym c.child.ensures));
  few = subst (λ (h : ValuedFamilies (Member g.row.V.Denot)). h.signs ≤ SIGNS_MAX) c.self.view_is c.self.invariant.few;
}
