use Rattle.std.proofs.Common.{length}
use Rattle.pg_outside.proofs.KnownBytes.{HasWritten}
use Rattle.pg_outside.proofs.streams.write_bytes.Given as goal

abbrev pub invariant-loop-rest : goal.invariant-loop-rest
invariant-loop-rest g l = HasWritten (g.W.Write.contents l.initial.to) (g.W.Write.contents l.to) l.bytes l.rest

abbrev pub decreases-loop-rest : goal.decreases-loop-rest
decreases-loop-rest g l = length l.rest
