use Rattle.pg_select.proofs.LawsLater.{status_back, counted_back, nothing_later}
use Rattle.pg_select.proofs.laws.nothing_counts_later.Goals as goal

pub returns : goal.returns
returns c = record { statuses = status_back; counted = counted_back; later = nothing_later }
