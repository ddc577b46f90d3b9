use Rattle.std.proofs.Common.{rules}
use Rattle.pg_trie.proofs.lists.raise.stands_beside.Goals as goal

pub returns-then-dot-other_dot : goal.returns-then-dot-other_dot
returns-then-dot-other_dot c = search rules

pub returns-else-dot-other_dot : goal.returns-else-dot-other_dot
returns-else-dot-other_dot c = search rules
