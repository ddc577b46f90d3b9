use Rattle.pg_dict.proofs.LineReading.LineLaws.{items_line}
use Rattle.pg_dict.proofs.laws.items_are_lines.Goals as goal

pub returns : goal.returns
returns c = items_line c.args.table.now c.keeps_rules.ensures
