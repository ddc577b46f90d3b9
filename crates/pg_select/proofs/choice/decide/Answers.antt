use Rattle.std.proofs.Common.{rules}
use Rattle.pg_select.proofs.choice.decide.Goals as goal

pub returns-then-worth-needed : goal.returns-then-worth-needed
returns-then-worth-needed c = search rules

pub returns-else-worth-needed : goal.returns-else-worth-needed
returns-else-worth-needed c = search rules
