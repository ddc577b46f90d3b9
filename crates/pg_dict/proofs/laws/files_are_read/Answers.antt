use Rattle.pg_dict.proofs.LineReading.LineLaws.{file_is_read}
use Rattle.pg_dict.proofs.laws.files_are_read.Goals as goal

pub returns : goal.returns
returns c = file_is_read c.args.table.now c.keeps_rules.ensures
