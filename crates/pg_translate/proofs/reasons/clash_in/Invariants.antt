use Rattle.std.proofs.Common.{length}
use Rattle.pg_translate.proofs.reasons.clash_in.Given as goal

abbrev pub decreases-pieces : goal.decreases-pieces
decreases-pieces l = length l.rest
