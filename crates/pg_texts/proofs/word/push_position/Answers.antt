use Rattle.std.proofs.Common.{arith}
use Rattle.std.proofs.lemmas.Grind.{common_steps}
use Rattle.std.proofs.lemmas.Result.{IfOk-from_err}
use Rattle.pg_texts.proofs.word.push_position.Goals as goal

pub returns : goal.returns
returns c = grind (arith, common_steps)

pub returns-in_err-push_mark : goal.returns-in_err-push_mark
returns-in_err-push_mark c = IfOk-from_err c.from_residual.result _ c.from_residual.ensures.0

pub returns-in_err-push_weight : goal.returns-in_err-push_weight
returns-in_err-push_weight c = IfOk-from_err c.from_residual-in_err-push_weight.result _ c.from_residual-in_err-push_weight.ensures.0
