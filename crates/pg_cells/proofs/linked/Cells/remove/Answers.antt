use Rattle.std.proofs.Common.{◌≡◌, Some, sym, subst}
use Rattle.pg_types.specs.Inside.Placing.{cell_of}
use Rattle.pg_cells.specs.Inside.linked.ValuedFamilies.{ValuedFamilies}
use Rattle.pg_cells.specs.Inside.linked.Members.{IsBefore}
use Rattle.pg_cells.specs.Inside.families.Removing.{CanRemoveSign}
use Rattle.pg_cells.proofs.Unlinked.{before_plain}
use Rattle.pg_cells.proofs.linked.Cells.remove.Goals as goal

pub sign_before-before-requires : goal.sign_before-before-requires
sign_before-before-requires g c =
    let h = c.self.inside.placed in
    let can : CanRemoveSign h.families c.args.parent c.args.s =
    subst (λ (k : ValuedFamilies g.row.V.Denot). CanRemoveSign k.families c.args.parent c.args.s) (sym c.self.view_is) c.requires in record { links = c.self.invariant; parent = (can.prefix, can.at); base = c.child-base.ensures.base; sign = c.self.invariant.held.signs can.prefix c.args.s can.cell can.there }

pub child-base-requires : goal.child-base-requires
child-base-requires g c =
    let h = c.self.inside.placed in
    let can : CanRemoveSign h.families c.args.parent c.args.s =
    subst (λ (k : ValuedFamilies g.row.V.Denot). CanRemoveSign k.families c.args.parent c.args.s) (sym c.self.view_is) c.requires in
    (can.prefix, can.at)

pub remove_behind-requires : goal.remove_behind-requires
remove_behind-requires g c =
    let h = c.self.inside.placed in record {
      can = c.requires;
      before = λ q e.
          let at : cell_of h.families q ≡ Some c.args.parent = subst (λ (k : ValuedFamilies g.row.V.Denot). cell_of k.families q ≡ Some c.args.parent) (sym c.self.view_is) e in
          subst (λ (k : ValuedFamilies g.row.V.Denot). IsBefore k.values q c.args.s c.sign_before-before.result) c.self.view_is
          (before_plain h.values q c.args.s c.sign_before-before.result (c.sign_before-before.ensures q at));
    }
