use Rattle.std.proofs.Common.{length}
use Rattle.pg_words.proofs.slips.+first_same.Given as goal

abbrev pub decreases-first_same : goal.decreases-first_same
decreases-first_same l = length l.words.now
