use Rattle.std.proofs.Common.{rules}
use Rattle.pg_driver.proofs.counting.positions.has_care.Goals as goal

pub returns : goal.returns
returns c = search rules
