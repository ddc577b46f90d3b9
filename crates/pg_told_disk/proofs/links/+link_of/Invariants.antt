use Rattle.std.proofs.Common.{length}
use Rattle.pg_told_disk.proofs.links.+link_of.Given as goal

abbrev pub decreases-link_of : goal.decreases-link_of
decreases-link_of l = length l.links.now
