use Rattle.std.proofs.Common.{rules}
use Rattle.pg_driver.proofs.counting.open_passes.close_at.Goals as goal

pub returns-in-Some-Hopeless-clause-here : goal.returns-in-Some-Hopeless-clause-here
returns-in-Some-Hopeless-clause-here c = search rules
