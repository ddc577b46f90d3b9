use Rattle.std.proofs.Common.{length}
use Rattle.pg_words.proofs.slips.+slot_behind.Given as goal

abbrev pub decreases-slot_behind : goal.decreases-slot_behind
decreases-slot_behind l = length l.options.now
