use Rattle.std.proofs.Common.{◌≡◌, ◌+◌, List, true, false, IfOk, sym, subst}
use Rattle.std.proofs.lemmas.Result.{IfOk-from_err}
use Rattle.pg_translate.specs.Alphabets.{letters_of}
use Rattle.pg_dict.specs.Parts.{part_of}
use Rattle.pg_dict.specs.Word.{Word}
use Rattle.pg_dict.specs.Inside.SoundWords.{SignsAtMost}
use Rattle.pg_sweep.specs.Inside.Inputs.{terms, rest_totals}
use Rattle.pg_sweep.proofs.Steps.{fold_signs}
use Rattle.pg_sweep.proofs.folds.totals_of_fold.Goals as goal

pub totals_by_rest-requires-clause-rest : goal.totals_by_rest-requires-clause-rest
totals_by_rest-requires-clause-rest g c =
    let n = letters_of c.args.inputs.now.table.now + 1 in
    subst (λ (ws : List Word). SignsAtMost n ws) (sym c.in_ok-rest.ensures.words) (fold_signs n c.args.inputs.now.folds c.args.fold false c.args.inputs.now.dictionary.now c.requires.signs.0)

pub totals_by_rest-requires-clause-left_out : goal.totals_by_rest-requires-clause-left_out
totals_by_rest-requires-clause-left_out g c =
    let n = letters_of c.args.inputs.now.table.now + 1 in
    subst (λ (ws : List Word). SignsAtMost n ws) (sym c.in_ok-left_out.ensures.words) (fold_signs n c.args.inputs.now.folds c.args.fold true c.args.inputs.now.dictionary.now c.requires.signs.0)

pub returns-clause-value : goal.returns-clause-value
returns-clause-value g c =
    let s = terms c.args.inputs.now in
    let p = c.args.params.now in
    let r = c.totals_by_rest.result in
    let trained = subst (λ (ws : List Word). IfOk r (λ sums. sums ≡ rest_totals s p ws c.in_ok-left_out.left_out)) c.in_ok-rest.ensures.words c.totals_by_rest.ensures.value in
    subst (λ (ws : List Word). IfOk r (λ sums. sums ≡ rest_totals s p (part_of s.folds c.args.fold false s.words) ws)) c.in_ok-left_out.ensures.words trained

pub returns-in_err-rest-clause-value : goal.returns-in_err-rest-clause-value
returns-in_err-rest-clause-value g c = IfOk-from_err c.from_residual.result _ c.from_residual.ensures.0

pub returns-in_err-rest-clause-small : goal.returns-in_err-rest-clause-small
returns-in_err-rest-clause-small g c = IfOk-from_err c.from_residual.result _ c.from_residual.ensures.0

pub returns-in_err-left_out-clause-value : goal.returns-in_err-left_out-clause-value
returns-in_err-left_out-clause-value g c = IfOk-from_err c.from_residual-in_err-left_out.result _ c.from_residual-in_err-left_out.ensures.0

pub returns-in_err-left_out-clause-small : goal.returns-in_err-left_out-clause-small
returns-in_err-left_out-clause-small g c = IfOk-from_err c.from_residual-in_err-left_out.result _ c.from_residual-in_err-left_out.ensures.0

pub totals_by_rest-requires-clause-signs : goal.totals_by_rest-requires-clause-signs
totals_by_rest-requires-clause-signs g c = c.requires.signs

pub returns-clause-small : goal.returns-clause-small
returns-clause-small g c = c.totals_by_rest.ensures.small
