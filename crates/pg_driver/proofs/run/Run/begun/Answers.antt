use Rattle.std.proofs.Common.{rules}
use Rattle.pg_driver.proofs.run.Run.begun.Goals as goal

pub returns : goal.returns
returns c = search rules
