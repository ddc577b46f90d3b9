use Rattle.pg_select.proofs.LawsLater.{later_at_once, later_still, later_raised, later_hopeless}
use Rattle.pg_select.proofs.LawsNothing.{later_after_pass}
use Rattle.pg_select.proofs.laws.levels_go_on.Goals as goal

pub returns : goal.returns
returns c = record { at_once = later_at_once; still = later_still; raised = later_raised; hopeless = later_hopeless; decided = later_after_pass }
