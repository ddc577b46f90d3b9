use Rattle.std.proofs.Common.{◌≡◌, [], ◌∷◌, ◌++◌, Some, None, inl, inr, sym, subst, ◌∙◌}
use Rattle.std.proofs.lemmas.Bool.{both_ways}
use Rattle.pg_types.specs.Inside.Placing.{cell_of}
use Rattle.pg_cells.specs.Inside.linked.Members.{goes_on}
use Rattle.pg_cells.specs.Inside.linked.Links.{with_link}
use Rattle.pg_cells.proofs.LinkLaws.{some_base, none_goes_on, goes_cell}
use Rattle.pg_cells.proofs.linked.links.link.Goals as goal

pub returns-then-s-eq0-clause-linked : goal.returns-then-s-eq0-clause-linked
returns-then-s-eq0-clause-linked g c q e =
    subst (λ s. c.set_first.new.cells ≡ with_link c.args.cells.now q s c.args.to) (sym c.if-s-eq0.true) (c.set_first.ensures.linked q e)

pub returns-then-base-eq0-clause-linked : goal.returns-then-base-eq0-clause-linked
returns-then-base-eq0-clause-linked g c q e =
    let h = c.args.cells.now in
    elim c.requires.parent.1.1 [
      | inl z ↦ absurd (c.if-s-eq0.false z)
      | inr there ↦ absurd (both_ways (goes_on h.values c.requires.parent.0 c.args.s)
          (none_goes_on h c.requires.held c.requires.parent.0 c.child-base.result (c.child-base.ensures.base c.requires.parent.0 c.requires.parent.1.0) c.if-base-eq0.true c.args.s) there)
    ]

pub returns-in-Some-clause-linked : goal.returns-in-Some-clause-linked
returns-in-Some-clause-linked g c q e =
    let has = some_base c.args.cells.now.families q c.child-base.result (c.child-base.ensures.base q e) c.if-base-eq0.false in
    c.set_next.ensures.linked q c.args.s c.if-s-eq0.false (sym (c.in-Some.ensures.cell q has))

pub returns-in_default-clause-linked : goal.returns-in_default-clause-linked
returns-in_default-clause-linked g c q e =
    let h = c.args.cells.now in
    let has = some_base h.families c.requires.parent.0 c.child-base.result (c.child-base.ensures.base c.requires.parent.0 c.requires.parent.1.0) c.if-base-eq0.false in
    elim c.requires.parent.1.1 [
      | inl z ↦ absurd (c.if-s-eq0.false z)
      | inr there ↦
          let cell = goes_cell h c.requires.held c.requires.parent.0 c.args.s there in
          let none : cell_of h.families (c.requires.parent.0 ++ c.args.s ∷ []) ≡ None = sym (c.in_default.ensures.cell c.requires.parent.0 has) in
          let no : None ≡ Some cell.0 = sym none ∙ cell.1 in
          cc
    ]

pub set_first-requires : goal.set_first-requires
set_first-requires g c = record { taken = (c.requires.parent.0, c.requires.parent.1.0); fits = c.requires.fits }

pub child-base-requires : goal.child-base-requires
child-base-requires g c = (c.requires.parent.0, c.requires.parent.1.0)

pub returns-then-s-eq0-clause-kept : goal.returns-then-s-eq0-clause-kept
returns-then-s-eq0-clause-kept g c = c.set_first.ensures.kept

pub returns-then-base-eq0-clause-kept : goal.returns-then-base-eq0-clause-kept
returns-then-base-eq0-clause-kept g c = c.requires.held

pub returns-in-Some-clause-kept : goal.returns-in-Some-clause-kept
returns-in-Some-clause-kept g c = c.set_next.ensures.kept

pub returns-in_default-clause-kept : goal.returns-in_default-clause-kept
returns-in_default-clause-kept g c = c.requires.held
