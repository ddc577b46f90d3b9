use Rattle.std.proofs.Common.{length}
use Rattle.pg_told_disk.proofs.lookup.+mode_of.Given as goal

abbrev pub decreases-mode_of : goal.decreases-mode_of
decreases-mode_of l = length l.log.now
