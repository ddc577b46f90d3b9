use Rattle.pg_trie.specs.Inside.FreshLists.{AreFreshTo}
use Rattle.pg_trie.proofs.deleting.renew.fresh_heads.Given as goal

abbrev pub invariant-loop-cell : goal.invariant-loop-cell
invariant-loop-cell l = AreFreshTo l.cells l.outputs l.cell l.fresh l.heads.items
