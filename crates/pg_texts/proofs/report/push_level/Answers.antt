use Rattle.std.proofs.lemmas.Result.{IfOk-from_err}
use Rattle.pg_texts.proofs.report.push_level.Goals as goal

pub returns-in_err-push_level_front : goal.returns-in_err-push_level_front
returns-in_err-push_level_front c = IfOk-from_err c.from_residual.result _ c.from_residual.ensures.0

pub returns-in_err-push_number : goal.returns-in_err-push_number
returns-in_err-push_number c = IfOk-from_err c.from_residual-in_err-push_number.result _ c.from_residual-in_err-push_number.ensures.0

pub returns-in_err-extend_from_slice : goal.returns-in_err-extend_from_slice
returns-in_err-extend_from_slice c = IfOk-from_err c.from_residual-in_err-extend_from_slice.result _ c.from_residual-in_err-extend_from_slice.ensures.0

pub returns-in_err-push_totals : goal.returns-in_err-push_totals
returns-in_err-push_totals c = IfOk-from_err c.from_residual-in_err-push_totals.result _ c.from_residual-in_err-push_totals.ensures.0
