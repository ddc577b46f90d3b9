use Rattle.pg_trie.specs.Inside.FreshLists.{RenewsTo}
use Rattle.pg_trie.proofs.deleting.renew.renew.Given as goal

abbrev pub invariant-loop-cell : goal.invariant-loop-cell
invariant-loop-cell l = RenewsTo l.fn.cells l.cell l.heads l.cells
