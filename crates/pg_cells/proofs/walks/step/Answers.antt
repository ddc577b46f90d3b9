use Rattle.std.proofs.Common.{◌≡◌, ◌∷◌, [], ◌++◌, Some, None, ap, sym, subst, ◌∙◌, cond}
use Rattle.std.proofs.lemmas.Bool.{eq-eqb}
use Rattle.pg_types.specs.Placement.{base_of}
use Rattle.pg_types.specs.Inside.Placing.{cell_of}
use Rattle.pg_cells.specs.Inside.linked.Walks.{IsAt}
use Rattle.pg_cells.proofs.LinkLaws.{some_base}
use Rattle.pg_cells.proofs.Walking.{childless}
use Rattle.pg_cells.proofs.walks.step.Goals as goal

pub root_cell-requires : goal.root_cell-requires
root_cell-requires g c = c.requires.sign

pub returns-in_default-clause-cell : goal.returns-in_default-clause-cell
returns-in_default-clause-cell g c q at =
    let start : q ≡ [] = subst (λ a. IsAt c.args.cells.now.families a q) c.in_default.is at in
    sym (ap (λ p. cell_of c.args.cells.now.families (p ++ c.args.s ∷ [])) start ∙ c.root_cell.ensures.cell)

pub returns-in_default-clause-none : goal.returns-in_default-clause-none
returns-in_default-clause-none g c q at none = absurd (let n : Some c.root_cell.result ≡ None = none in cc)

pub child-base-requires : goal.child-base-requires
child-base-requires g c = (c.requires.at.0, subst (λ at. IsAt c.args.cells.now.families at c.requires.at.0) c.in-Some.is c.requires.at.1)

pub find-requires : goal.find-requires
find-requires g c =
    let here : cell_of c.args.cells.now.families c.requires.at.0 ≡ Some c.in-Some.cell = subst (λ at. IsAt c.args.cells.now.families at c.requires.at.0) c.in-Some.is c.requires.at.1 in
    record { base = (c.requires.at.0, some_base c.args.cells.now.families c.requires.at.0 c.child-base.result (c.child-base.ensures.base c.requires.at.0 here) c.if-base-eq0.false); sign = c.requires.sign }

pub returns-then-base-eq0-clause-cell : goal.returns-then-base-eq0-clause-cell
returns-then-base-eq0-clause-cell g c q at =
    let here : cell_of c.args.cells.now.families q ≡ Some c.in-Some.cell = subst (λ a. IsAt c.args.cells.now.families a q) c.in-Some.is at in
    let none : base_of c.args.cells.now.families q ≡ None = c.child-base.ensures.base q here ∙ ap (λ b. cond b None (Some c.child-base.result)) (eq-eqb c.child-base.result 0 c.if-base-eq0.true) in
    sym (childless c.args.cells.now.families q c.args.s none)

pub returns-then-base-eq0-clause-none : goal.returns-then-base-eq0-clause-none
returns-then-base-eq0-clause-none g c q at none =
    let here : cell_of c.args.cells.now.families q ≡ Some c.in-Some.cell = subst (λ a. IsAt c.args.cells.now.families a q) c.in-Some.is at in
    c.child-base.ensures.none q here c.if-base-eq0.true c.args.s

pub returns-clause-cell : goal.returns-clause-cell
returns-clause-cell g c q at =
    let here : cell_of c.args.cells.now.families q ≡ Some c.in-Some.cell = subst (λ a. IsAt c.args.cells.now.families a q) c.in-Some.is at in
    c.find.ensures.cell q (some_base c.args.cells.now.families q c.child-base.result (c.child-base.ensures.base q here) c.if-base-eq0.false)

pub returns-clause-none : goal.returns-clause-none
returns-clause-none g c q at =
    let here : cell_of c.args.cells.now.families q ≡ Some c.in-Some.cell = subst (λ a. IsAt c.args.cells.now.families a q) c.in-Some.is at in
    c.find.ensures.none q (some_base c.args.cells.now.families q c.child-base.result (c.child-base.ensures.base q here) c.if-base-eq0.false)
