use Rattle.std.proofs.Common.{length}
use Rattle.pg_words.proofs.slips.+walk.Given as goal

abbrev pub decreases-walk : goal.decreases-walk
decreases-walk l = length l.slots.now
