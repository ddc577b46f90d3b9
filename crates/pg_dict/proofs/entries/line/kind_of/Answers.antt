use Rattle.std.proofs.Common.{rules}
use Rattle.pg_dict.proofs.entries.line.kind_of.Goals as goal

pub returns-in-Some-eq123 : goal.returns-in-Some-eq123
returns-in-Some-eq123 c = search rules
