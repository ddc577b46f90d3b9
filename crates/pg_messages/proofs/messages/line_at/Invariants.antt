use Rattle.std.proofs.Common.{length}
use Rattle.pg_messages.proofs.messages.line_at.Given as goal

abbrev pub decreases-lines : goal.decreases-lines
decreases-lines l = length l.rest
