use Rattle.std.proofs.Common.{[]}
use Rattle.pg_trie.specs.Inside.PrunedFamilies.{PrunesTo}
use Rattle.pg_trie.proofs.deleting.prune.prune.Given as goal

abbrev pub invariant-loop-s : goal.invariant-loop-s
invariant-loop-s l = PrunesTo l.fn.cells l.cells [] l.s
