use Rattle.std.proofs.Common.{length}
use Rattle.pg_words.proofs.slips.+file_behind.Given as goal

abbrev pub decreases-file_behind : goal.decreases-file_behind
decreases-file_behind l = length l.words.now
