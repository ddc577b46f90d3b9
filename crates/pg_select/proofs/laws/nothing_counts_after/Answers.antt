use Rattle.pg_select.proofs.LawsNothing.{nothing_counts_when_covered, nothing_counts_after}
use Rattle.pg_select.proofs.laws.nothing_counts_after.Goals as goal

pub returns : goal.returns
returns c = record { covered = nothing_counts_when_covered; decided = nothing_counts_after }
