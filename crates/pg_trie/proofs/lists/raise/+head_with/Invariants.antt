use Rattle.pg_trie.proofs.lists.raise.+head_with.Given as goal

abbrev pub decreases-head_with : goal.decreases-head_with
decreases-head_with l = l.head
