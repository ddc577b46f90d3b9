use Rattle.std.proofs.Common.{rules}
use Rattle.pg_trie.proofs.trie.PatternTrie.layout.Goals as goal

pub returns : goal.returns
returns c = search rules
