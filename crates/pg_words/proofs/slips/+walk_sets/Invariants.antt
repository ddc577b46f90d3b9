use Rattle.std.proofs.Common.{length}
use Rattle.pg_words.proofs.slips.+walk_sets.Given as goal

abbrev pub decreases-walk_sets : goal.decreases-walk_sets
decreases-walk_sets l = length l.words.now
