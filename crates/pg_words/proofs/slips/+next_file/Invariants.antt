use Rattle.std.proofs.Common.{length}
use Rattle.pg_words.proofs.slips.+next_file.Given as goal

abbrev pub decreases-next_file : goal.decreases-next_file
decreases-next_file l = length l.slots.now
