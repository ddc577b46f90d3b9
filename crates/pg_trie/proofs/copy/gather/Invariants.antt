use Rattle.pg_trie.specs.Inside.Maps.{maps_of}
use Rattle.pg_trie.proofs.ListLaws.Gathered.{Gathers}
use Rattle.pg_trie.proofs.copy.gather.Given as goal

abbrev pub invariant-loop-string : goal.invariant-loop-string
invariant-loop-string l = Gathers (maps_of l.cells l.outputs).patterns l.strings l.string-index l.entries.items
