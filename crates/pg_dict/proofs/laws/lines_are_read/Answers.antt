use Rattle.pg_dict.proofs.LineReading.LineLaws.{line_is_read}
use Rattle.pg_dict.proofs.laws.lines_are_read.Goals as goal

pub returns : goal.returns
returns c = line_is_read c.args.table.now c.keeps_rules.ensures
