use Rattle.std.proofs.lemmas.Result.{IfOk-from_err}
use Rattle.pg_texts.proofs.cells.push_level.Goals as goal

pub returns-in_err-push_level_front : goal.returns-in_err-push_level_front
returns-in_err-push_level_front c = IfOk-from_err c.from_residual.result _ c.from_residual.ensures.0
