use Rattle.std.proofs.Common.{sym, refl, ap, subst, ◌∙◌, ◌++◌, ◌∷◌, []}
use Rattle.std.specs.FinMap.{put}
use Rattle.std.proofs.lemmas.Result.{on_err_weaker, on_ok_weaker}
use Rattle.pg_cells.specs.Inside.linked.Walks.{StepsBy}
use Rattle.pg_cells.proofs.StringMaps.{order}
use Rattle.pg_cells.proofs.SignLaws.{sign_added}
use Rattle.pg_cells.proofs.walks.step_or_add.Goals as goal

pub returns-in-Some-clause-cell : goal.returns-in-Some-clause-cell
returns-in-Some-clause-cell g c q e = sym (c.in-Some.ensures.cell q e)

pub returns-in-Some-clause-err : goal.returns-in-Some-clause-err
returns-in-Some-clause-err g c = tt

pub returns-in-Some-clause-ends : goal.returns-in-Some-clause-ends
returns-in-Some-clause-ends g c q e = tt

pub returns-in-Some-clause-kept : goal.returns-in-Some-clause-kept
returns-in-Some-clause-kept g c = c.requires.held

pub returns-clause-err : goal.returns-clause-err
returns-clause-err g c = c.add.ensures.err

pub returns-in-Some-clause-steps : goal.returns-in-Some-clause-steps
returns-in-Some-clause-steps g c q e =
    let h = c.args.cells.now in
    subst (λ o. StepsBy o h h q c.args.s c.args.blank) (c.in-Some.ensures.cell q e) refl

pub returns-clause-steps : goal.returns-clause-steps
returns-clause-steps g c q e =
    let h = c.args.cells.now in
    let added = sign_added h.signs h c.requires.held q c.args.s (sym (c.in_default.ensures.cell q e)) in
    on_ok_weaker c.add.result (λ is. subst (λ o. StepsBy o h c.add.new.self q c.args.s c.args.blank) (c.in_default.ensures.cell q e)
    (is ∙ ap (λ fs. record h { families = fs; values = put order (q ++ c.args.s ∷ []) c.args.blank h.values }) (sym added))) (c.add.ensures.held q e)

pub returns-clause-cell : goal.returns-clause-cell
returns-clause-cell g c q e = c.add.ensures.cell q e

pub returns-clause-ends : goal.returns-clause-ends
returns-clause-ends g c q e = on_err_weaker c.add.result (λ _. c.in_default.ensures.none q e refl) c.add.ensures.err
