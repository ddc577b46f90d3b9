use Rattle.std.proofs.Common.{rules}
use Rattle.pg_driver.proofs.records.PassRecord.left_none.Goals as goal

pub returns : goal.returns
returns c = search rules
