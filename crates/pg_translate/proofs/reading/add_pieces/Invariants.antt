use Rattle.std.proofs.Common.{length}
use Rattle.pg_translate.proofs.Readings.{HasPieces}
use Rattle.pg_translate.proofs.reading.add_pieces.Given as goal

abbrev pub invariant-pieces : goal.invariant-pieces
invariant-pieces l = HasPieces l.fn.index l.index l.marks l.line l.letter l.column l.delimiter l.text l.rest

abbrev pub decreases-pieces : goal.decreases-pieces
decreases-pieces l = length l.rest
