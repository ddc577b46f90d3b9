use Rattle.std.proofs.Common.{length}
use Rattle.pg_words.proofs.slips.+walk_named.Given as goal

abbrev pub decreases-walk_named : goal.decreases-walk_named
decreases-walk_named l = length l.forms.now
