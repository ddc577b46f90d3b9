use Rattle.std.proofs.Common.{length}
use Rattle.pg_told_disk.proofs.lookup.+bytes_of.Given as goal

abbrev pub decreases-bytes_of : goal.decreases-bytes_of
decreases-bytes_of l = length l.log.now
