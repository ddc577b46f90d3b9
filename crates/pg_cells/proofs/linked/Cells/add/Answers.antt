use Rattle.std.proofs.Common.{Ok, sym, subst, arith, ap, ◌∙◌}
use Rattle.std.proofs.lemmas.Result.{err_from_is_err_and}
use Rattle.pg_cells.specs.Inside.families.Adding.{CanTakeSign, AddsSign}
use Rattle.pg_cells.specs.Inside.linked.ValuedFamilies.{ValuedFamilies}
use Rattle.pg_cells.specs.Inside.linked.Links.{values_alone, AreLinks}
use Rattle.pg_cells.proofs.LinkedSigns.{prefix_added, before_added, links_of_added, linked_added}
use Rattle.pg_cells.proofs.linked.Cells.add.Goals as goal

pub child-base-requires : goal.child-base-requires
child-base-requires g c =
    let h = c.self.inside.placed in
    let can : CanTakeSign h.signs h.families c.args.parent c.args.s =
    subst (λ (k : ValuedFamilies g.row.V.Denot). CanTakeSign k.signs k.families c.args.parent c.args.s) (sym c.self.view_is) c.requires in
    (can.prefix, can.at)

pub sign_before-before-requires : goal.sign_before-before-requires
sign_before-before-requires g c =
    let h = c.self.inside.placed in
    let can : CanTakeSign h.signs h.families c.args.parent c.args.s =
    subst (λ (k : ValuedFamilies g.row.V.Denot). CanTakeSign k.signs k.families c.args.parent c.args.s) (sym c.self.view_is) c.requires in
    record { links = c.self.invariant; parent = (can.prefix, can.at); base = c.child-base.ensures.base; sign = (can.low, can.high) }

pub list_moving-requires : goal.list_moving-requires
list_moving-requires g c =
    let h = c.self.inside.placed in
    let can : CanTakeSign h.signs h.families c.args.parent c.args.s =
    subst (λ (k : ValuedFamilies g.row.V.Denot). CanTakeSign k.signs k.families c.args.parent c.args.s) (sym c.self.view_is) c.requires in
    record { links = c.self.invariant; can = can; base = c.child-base.ensures.base }

pub link-requires : goal.link-requires
link-requires g c =
    let h = c.self.inside.placed in
    let can : CanTakeSign h.signs h.families c.args.parent c.args.s =
    subst (λ (k : ValuedFamilies g.row.V.Denot). CanTakeSign k.signs k.families c.args.parent c.args.s) (sym c.self.view_is) c.requires in record {
      held = c.in_ok-cell.ensures.kept;
      parent = (
        can.prefix,
        (
          prefix_added h c.add.new.self c.add.new.self c.self.invariant c.args.parent c.args.s can c.sign_before-before.result (c.sign_before-before.ensures can.prefix can.at)
              c.sign_after-after.result (c.sign_after-after.ensures.next can.prefix can.at) c.args.v c.in_ok-cell.cell c.in_ok-cell.ensures,
          before_added h c.add.new.self c.add.new.self c.self.invariant c.args.parent c.args.s can c.sign_before-before.result (c.sign_before-before.ensures can.prefix can.at)
              c.sign_after-after.result (c.sign_after-after.ensures.next can.prefix can.at) c.args.v c.in_ok-cell.cell c.in_ok-cell.ensures,
        ),
      );
      fits = let high = can.high in let few = c.child-base.ensures.few in omega arith;
    }

pub invariant_of-self-2 : goal.invariant_of-self-2
invariant_of-self-2 g c =
    let h = c.self.inside.placed in
    let can : CanTakeSign h.signs h.families c.args.parent c.args.s =
    subst (λ (k : ValuedFamilies g.row.V.Denot). CanTakeSign k.signs k.families c.args.parent c.args.s) (sym c.self.view_is) c.requires in
    links_of_added h c.add.new.self c.link.new.cells c.self.invariant c.args.parent c.args.s can c.sign_before-before.result (c.sign_before-before.ensures can.prefix can.at)
    c.sign_after-after.result (c.sign_after-after.ensures.next can.prefix can.at) c.args.v c.in_ok-cell.cell c.in_ok-cell.ensures
    c.link.ensures.kept c.link.ensures.linked

pub returns : goal.returns
returns g c =
    let h = c.self.inside.placed in
    let can : CanTakeSign h.signs h.families c.args.parent c.args.s =
    subst (λ (k : ValuedFamilies g.row.V.Denot). CanTakeSign k.signs k.families c.args.parent c.args.s) (sym c.self.view_is) c.requires in
    subst (λ (k : ValuedFamilies g.row.V.Denot). AddsSign k (values_alone c.link.new.cells) c.args.parent c.args.s c.args.v (Ok c.in_ok-cell.cell)) c.self.view_is
    (linked_added h c.add.new.self c.link.new.cells c.self.invariant c.args.parent c.args.s can c.sign_before-before.result (c.sign_before-before.ensures can.prefix can.at)
    c.sign_after-after.result (c.sign_after-after.ensures.next can.prefix can.at) c.args.v c.in_ok-cell.cell c.in_ok-cell.ensures
    c.link.ensures.kept c.link.ensures.linked)

pub sign_after-after-requires : goal.sign_after-after-requires
sign_after-after-requires g c =
    let h = c.self.inside.placed in
    let can : CanTakeSign h.signs h.families c.args.parent c.args.s =
    subst (λ (k : ValuedFamilies g.row.V.Denot). CanTakeSign k.signs k.families c.args.parent c.args.s) (sym c.self.view_is) c.requires in
    record { links = c.self.invariant; parent = (can.prefix, can.at); base = c.child-base.ensures.base; sign = λ q e. (c.sign_before-before.ensures q e).there }

pub invariant_of-self : goal.invariant_of-self
invariant_of-self g c = c.self.invariant

pub invariant_of-self-in_err-cell : goal.invariant_of-self-in_err-cell
invariant_of-self-in_err-cell g c = subst AreLinks (sym c.in_err-cell.ensures.err) c.self.invariant

pub returns-in_err-list_moving : goal.returns-in_err-list_moving
returns-in_err-list_moving g c =
    let err = err_from_is_err_and c.from_residual.result c.from_residual.ensures.1 in
    rw (err.1) (record { held = λ q e. tt; cell = λ q e. tt; cells = λ q e. tt; kept = tt; err = c.self.view_is })

pub returns-in_err-cell : goal.returns-in_err-cell
returns-in_err-cell g c =
    let err = err_from_is_err_and c.from_residual-in_err-cell.result c.from_residual-in_err-cell.ensures.1 in
    rw (err.1) (record { held = λ q e. tt; cell = λ q e. tt; cells = λ q e. tt; kept = tt; err = ap values_alone c.in_err-cell.ensures.err ∙ c.self.view_is })
