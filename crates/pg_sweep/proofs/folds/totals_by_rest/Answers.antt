use Rattle.std.proofs.Common.{◌≡◌, ◌+◌, sym, ◌∙◌, ap, subst, rules}
use Rattle.std.proofs.lemmas.Result.{IfOk-from_err}
use Rattle.pg_translate.specs.Alphabets.{letters_of}
use Rattle.pg_dict.specs.Inside.SoundWords.{SignsAtMost}
use Rattle.pg_select.specs.Inside.engine.Meanings.{Meaning}
use Rattle.pg_sweep.proofs.folds.totals_by_rest.Goals as goal

pub generate-requires-clause-signs : goal.generate-requires-clause-signs
generate-requires-clause-signs g c =
    let n = letters_of c.args.inputs.now.table.now + 1 in
    let greatest : (g.K.Made.Engine.meaning c.in_ok-engine.engine).signs ≡ n = ap (λ (m : Meaning). m.signs) c.in_ok-engine.ensures ∙ ap (λ k. k + 1) c.letters.ensures.value in
    subst (λ k. SignsAtMost k c.args.rest.now) (sym greatest) c.requires.rest

pub totals-requires : goal.totals-requires
totals-requires g c =
    let n = letters_of c.args.inputs.now.table.now + 1 in
    let greatest : (g.K.Made.Engine.meaning c.generate.new.engine).signs ≡ n = c.in_ok-generate.ensures.signs ∙ ap (λ (m : Meaning). m.signs) c.in_ok-engine.ensures
    ∙ ap (λ k. k + 1) c.letters.ensures.value in
    subst (λ k. SignsAtMost k c.args.left_out.now) (sym greatest) c.requires.left_out

pub returns-clause-value : goal.returns-clause-value
returns-clause-value g c = search rules

pub returns-in_err-engine-clause-value : goal.returns-in_err-engine-clause-value
returns-in_err-engine-clause-value g c = IfOk-from_err c.from_residual.result _ c.from_residual.ensures.0

pub returns-in_err-engine-clause-small : goal.returns-in_err-engine-clause-small
returns-in_err-engine-clause-small g c = IfOk-from_err c.from_residual.result _ c.from_residual.ensures.0

pub returns-in_err-generate-clause-value : goal.returns-in_err-generate-clause-value
returns-in_err-generate-clause-value g c = IfOk-from_err c.from_residual-in_err-generate.result _ c.from_residual-in_err-generate.ensures.0

pub returns-in_err-generate-clause-small : goal.returns-in_err-generate-clause-small
returns-in_err-generate-clause-small g c = IfOk-from_err c.from_residual-in_err-generate.result _ c.from_residual-in_err-generate.ensures.0
