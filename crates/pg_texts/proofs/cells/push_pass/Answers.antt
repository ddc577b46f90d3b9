use Rattle.std.proofs.lemmas.Result.{IfOk-from_err}
use Rattle.pg_texts.proofs.cells.push_pass.Goals as goal

pub returns-in_err-push_pass_front : goal.returns-in_err-push_pass_front
returns-in_err-push_pass_front c = IfOk-from_err c.from_residual.result _ c.from_residual.ensures.0

pub returns-in_err-push_used : goal.returns-in_err-push_used
returns-in_err-push_used c = IfOk-from_err c.from_residual-in_err-push_used.result _ c.from_residual-in_err-push_used.ensures.0
