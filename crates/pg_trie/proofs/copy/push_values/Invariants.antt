use Rattle.std.proofs.Common.{◌≡◌, ◌≤◌, ◌++◌, length}
use Rattle.pg_outputs.specs.Lists.{list_of}
use Rattle.pg_trie.specs.Inside.Maps.{entries_in, as_value}
use Rattle.pg_trie.proofs.copy.push_values.Given as goal

abbrev pub invariant-loop-value : goal.invariant-loop-value
invariant-loop-value l = record {
  inside : l.at ≤ length l.outputs;
  whole : l.entries.items ++ entries_in as_value l.string.0 (list_of l.outputs l.at) ≡ l.fn.entries.items ++ entries_in as_value l.string.0 (list_of l.outputs l.head);
}

abbrev pub decreases-loop-value : goal.decreases-loop-value
decreases-loop-value l = l.at
