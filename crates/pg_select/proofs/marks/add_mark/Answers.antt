use Rattle.std.proofs.Common.{rules}
use Rattle.pg_select.proofs.marks.add_mark.Goals as goal

pub returns-in-Error : goal.returns-in-Error
returns-in-Error c = search rules
