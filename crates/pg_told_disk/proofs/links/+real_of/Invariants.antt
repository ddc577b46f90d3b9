use Rattle.std.proofs.Common.{length}
use Rattle.pg_told_disk.proofs.links.+real_of.Given as goal

abbrev pub decreases-real_of : goal.decreases-real_of
decreases-real_of l = length l.links.now
