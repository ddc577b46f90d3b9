use Rattle.std.proofs.Common.{length}
use Rattle.pg_explain.proofs.refused.more.refused_behind.Given as goal

abbrev pub decreases-lines : goal.decreases-lines
decreases-lines l = length l.rest
