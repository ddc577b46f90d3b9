use Rattle.std.proofs.Common.{rules}
use Rattle.pg_dict.proofs.store.position.Position.has_hyphen.Goals as goal

pub returns-in-Missed : goal.returns-in-Missed
returns-in-Missed c = search rules
