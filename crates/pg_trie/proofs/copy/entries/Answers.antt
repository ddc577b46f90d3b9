use Rattle.pg_trie.proofs.copy.entries.Goals as goal

pub strings-requires-clause-short : goal.strings-requires-clause-short
strings-requires-clause-short c q v at = (c.requires.heads q v at).short
