use Rattle.std.proofs.lemmas.Result.{IfOk-from_err}
use Rattle.pg_texts.proofs.report.report_text.Goals as goal

pub returns-in_err-push_warning : goal.returns-in_err-push_warning
returns-in_err-push_warning c = IfOk-from_err c.from_residual.result _ c.from_residual.ensures.0

pub returns-in_err-push_levels : goal.returns-in_err-push_levels
returns-in_err-push_levels c = IfOk-from_err c.from_residual-in_err-push_levels.result _ c.from_residual-in_err-push_levels.ensures.0

pub returns-in_err-push_ending : goal.returns-in_err-push_ending
returns-in_err-push_ending c = IfOk-from_err c.from_residual-in_err-push_ending.result _ c.from_residual-in_err-push_ending.ensures.0
