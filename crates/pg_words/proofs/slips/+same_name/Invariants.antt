use Rattle.std.proofs.Common.{length}
use Rattle.pg_words.proofs.slips.+same_name.Given as goal

abbrev pub decreases-same_name : goal.decreases-same_name
decreases-same_name l = length l.words.now
