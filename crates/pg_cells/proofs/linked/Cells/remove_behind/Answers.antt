use Rattle.std.proofs.Common.{◌≡◌, Some, true, sym, subst, MatchBool, inr, arith}
use Rattle.pg_types.specs.Inside.Placing.{cell_of}
use Rattle.pg_cells.specs.Inside.linked.ValuedFamilies.{ValuedFamilies}
use Rattle.pg_cells.specs.Inside.linked.Links.{values_alone}
use Rattle.pg_cells.specs.Inside.linked.Members.{IsAlone, HasOther, goes_on}
use Rattle.pg_cells.specs.Inside.families.Removing.{CanRemoveSign, RemovesSign}
use Rattle.pg_cells.proofs.LinkLaws.{cell_goes}
use Rattle.pg_cells.proofs.LinkedSigns.{prefix_left, before_left, links_of_left, linked_removed}
use Rattle.pg_cells.proofs.SteppedLinks.{alone_told}
use Rattle.pg_cells.proofs.Unlinked.{before_seen}
use Rattle.pg_cells.proofs.linked.Cells.remove_behind.Goals as goal

pub child-base-requires : goal.child-base-requires
child-base-requires g c =
    let h = c.self.inside.placed in
    let can : CanRemoveSign h.families c.args.parent c.args.s =
    subst (λ (k : ValuedFamilies g.row.V.Denot). CanRemoveSign k.families c.args.parent c.args.s) (sym c.self.view_is) c.requires.can in
    (can.prefix, can.at)

pub sign_after-after-requires : goal.sign_after-after-requires
sign_after-after-requires g c =
    let h = c.self.inside.placed in
    let can : CanRemoveSign h.families c.args.parent c.args.s =
    subst (λ (k : ValuedFamilies g.row.V.Denot). CanRemoveSign k.families c.args.parent c.args.s) (sym c.self.view_is) c.requires.can in record {
      links = c.self.invariant;
      parent = (can.prefix, can.at);
      base = c.child-base.ensures.base;
      sign = λ q e.
          let same : can.prefix ≡ q = c.self.invariant.held.apart can.prefix q c.args.parent can.at e in
          inr (subst (λ p. goes_on h.values p c.args.s ≡ true) same (cell_goes h c.self.invariant.held can.prefix c.args.s can.cell can.there));
    }

pub remove-requires : goal.remove-requires
remove-requires g c =
    let h = c.self.inside.placed in
    let can : CanRemoveSign h.families c.args.parent c.args.s =
    subst (λ (k : ValuedFamilies g.row.V.Denot). CanRemoveSign k.families c.args.parent c.args.s) (sym c.self.view_is) c.requires.can in
    let up = (c.self.invariant.held.signs can.prefix c.args.s can.cell can.there).0 in record {
      can = can;
      alone = λ q e.
          let seen = subst (λ (k : ValuedFamilies g.row.V.Denot). cell_of k.families q ≡ Some c.args.parent) c.self.view_is e in
          let before = before_seen h c.args.self.now c.self.view_is q c.args.s c.args.before (c.requires.before q seen) in
          subst (λ b. MatchBool b (IsAlone h.families q c.args.s) (HasOther h.families q c.args.s)) (sym c.is_alone.ensures)
          (alone_told h h h c.self.invariant q c.args.parent e c.args.s up c.args.before before
          c.sign_after-after.result (c.sign_after-after.ensures.next q e));
    }

pub link-requires : goal.link-requires
link-requires g c =
    let h = c.self.inside.placed in
    let can : CanRemoveSign h.families c.args.parent c.args.s =
    subst (λ (k : ValuedFamilies g.row.V.Denot). CanRemoveSign k.families c.args.parent c.args.s) (sym c.self.view_is) c.requires.can in
    let before = before_seen h c.args.self.now c.self.view_is can.prefix c.args.s c.args.before (c.requires.before can.prefix
    (subst (λ (k : ValuedFamilies g.row.V.Denot). cell_of k.families can.prefix ≡ Some c.args.parent) c.self.view_is can.at)) in record {
      held = c.remove.ensures.kept;
      parent = (
        can.prefix,
        (
          prefix_left h c.remove.new.self c.remove.new.self c.self.invariant c.args.parent c.args.s can c.args.before before
              c.sign_after-after.result (c.sign_after-after.ensures.next can.prefix can.at) c.remove.ensures,
          before_left h c.remove.new.self c.remove.new.self c.self.invariant c.args.parent c.args.s can c.args.before before
              c.sign_after-after.result (c.sign_after-after.ensures.next can.prefix can.at) c.remove.ensures,
        ),
      );
      fits = let fits = c.sign_after-after.ensures.fits in let high = (c.self.invariant.held.signs can.prefix c.args.s can.cell can.there).1 in let few = c.child-base.ensures.few in omega arith;
    }

pub invariant_of-self : goal.invariant_of-self
invariant_of-self g c =
    let h = c.self.inside.placed in
    let can : CanRemoveSign h.families c.args.parent c.args.s =
    subst (λ (k : ValuedFamilies g.row.V.Denot). CanRemoveSign k.families c.args.parent c.args.s) (sym c.self.view_is) c.requires.can in
    let before = before_seen h c.args.self.now c.self.view_is can.prefix c.args.s c.args.before (c.requires.before can.prefix
    (subst (λ (k : ValuedFamilies g.row.V.Denot). cell_of k.families can.prefix ≡ Some c.args.parent) c.self.view_is can.at)) in
    links_of_left h c.remove.new.self c.link.new.cells c.self.invariant c.args.parent c.args.s can c.args.before before
    c.sign_after-after.result (c.sign_after-after.ensures.next can.prefix can.at) c.remove.ensures c.link.ensures.kept c.link.ensures.linked

pub returns : goal.returns
returns g c =
    let h = c.self.inside.placed in
    let can : CanRemoveSign h.families c.args.parent c.args.s =
    subst (λ (k : ValuedFamilies g.row.V.Denot). CanRemoveSign k.families c.args.parent c.args.s) (sym c.self.view_is) c.requires.can in
    let before = before_seen h c.args.self.now c.self.view_is can.prefix c.args.s c.args.before (c.requires.before can.prefix
    (subst (λ (k : ValuedFamilies g.row.V.Denot). cell_of k.families can.prefix ≡ Some c.args.parent) c.self.view_is can.at)) in
    subst (λ (k : ValuedFamilies g.row.V.Denot). RemovesSign k (values_alone c.link.new.cells) c.args.parent c.args.s) c.self.view_is
    (linked_removed h c.remove.new.self c.link.new.cells c.self.invariant c.args.parent c.args.s can c.args.before before
    c.sign_after-after.result (c.sign_after-after.ensures.next can.prefix can.at) c.remove.ensures c.link.ensures.kept c.link.ensures.linked)
