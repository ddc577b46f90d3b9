use Rattle.pg_audit.proofs.FirstPart.{first_part}
use Rattle.pg_audit.proofs.PrintedPart.{part_printed}
use Rattle.pg_audit.proofs.laws.first_part_is_enough.Goals as goal

pub returns : goal.returns
returns c = record { shown = first_part; printed = part_printed }
