use Rattle.std.proofs.Common.{length}
use Rattle.pg_translate.proofs.Readings.{HasLines}
use Rattle.pg_translate.proofs.reading.read_letters.Given as goal

abbrev pub invariant-lines : goal.invariant-lines
invariant-lines l = HasLines l.index l.marks l.text l.line l.rest

abbrev pub decreases-lines : goal.decreases-lines
decreases-lines l = length l.rest
