use Rattle.std.proofs.Common.{arith}
use Rattle.std.proofs.lemmas.Grind.{common_steps}
use Rattle.pg_texts.proofs.report.push_warning.Goals as goal

pub returns-in_ok-push_warning_line : goal.returns-in_ok-push_warning_line
returns-in_ok-push_warning_line c = grind (arith, common_steps)
