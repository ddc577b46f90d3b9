use Rattle.pg_trie.proofs.deleting.renew.+fresh_head.Given as goal

abbrev pub decreases-fresh_head : goal.decreases-fresh_head
decreases-fresh_head l = l.head
