use Rattle.std.proofs.Common.{length}
use Rattle.pg_words.proofs.slips.+walk_options.Given as goal

abbrev pub decreases-walk_options : goal.decreases-walk_options
decreases-walk_options l = length l.words.now
