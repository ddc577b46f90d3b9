use Rattle.std.proofs.Common.{rules}
use Rattle.pg_select.proofs.choice.status.Goals as goal

pub returns-in-true-true-true : goal.returns-in-true-true-true
returns-in-true-true-true c = search rules

pub returns-in-true-true-false : goal.returns-in-true-true-false
returns-in-true-true-false c = search rules

pub returns-in-true-false-true : goal.returns-in-true-false-true
returns-in-true-false-true c = search rules

pub returns-in-true-false-false : goal.returns-in-true-false-false
returns-in-true-false-false c = search rules
