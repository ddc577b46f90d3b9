use Rattle.std.proofs.Common.{◌+◌, ◌-◌, ◌≤◌, length}
use Rattle.pg_trie.specs.Inside.FreshLists.{AreUnknown}
use Rattle.pg_trie.proofs.deleting.renew.no_heads.Given as goal

abbrev pub invariant-fill : goal.invariant-fill
invariant-fill l = record { within : length l.heads.items ≤ l.count + 1; unknown : AreUnknown l.heads.items }

abbrev pub decreases-fill : goal.decreases-fill
decreases-fill l = l.count + 1 - length l.heads.items
