use Rattle.std.proofs.Common.{◌≡◌, ◌++◌, ◌∷◌, [], ◌∙◌, ap}
use Rattle.std.specs.Prelude.{string_bytes}
use Rattle.std.proofs.lemmas.Result.{IfOk-from_err}
use Rattle.serde_json.specs.Written.{has_float, compact_text}
use Rattle.pg_sweep.specs.Inside.SweepData.{sweep_data}
use Rattle.pg_sweep.proofs.Floats.{sweep_no_float}
use Rattle.pg_sweep.proofs.Written.{file_written}
use Rattle.pg_sweep.proofs.text.sweep_text.Goals as goal

pub returns : goal.returns
returns c =
    let now = c.args.sweep.now in
    let text : string_bytes c.in_ok-to_string.field-0 ≡ compact_text (sweep_data c.args.folds now.rows now.winner) =
    c.in_ok-to_string.ensures.text (ap has_float c.in_ok-value.ensures ∙ sweep_no_float c.args.folds now.rows now.winner) ∙ ap compact_text c.in_ok-value.ensures in
    rw (c.in_ok-push.ensures.items, c.into_bytes-text.ensures.value) (ap (λ bytes. bytes ++ 10 ∷ []) text ∙ file_written c.args.folds now.rows now.winner)

pub returns-in_err-value : goal.returns-in_err-value
returns-in_err-value c = IfOk-from_err c.from_residual.result _ c.from_residual.ensures.0

pub returns-in_err-to_string : goal.returns-in_err-to_string
returns-in_err-to_string c = IfOk-from_err c.from_residual-in_err-to_string.result _ c.from_residual-in_err-to_string.ensures.0

pub returns-in_err-push : goal.returns-in_err-push
returns-in_err-push c = IfOk-from_err c.from_residual-in_err-push.result _ c.from_residual-in_err-push.ensures.0
