use Rattle.std.proofs.Common.{◌≤◌, length}
use Rattle.pg_trie.specs.Inside.Strings.{AreStringsTo}
use Rattle.pg_trie.proofs.copy.strings.strings.Given as goal

abbrev pub invariant-loop-i : goal.invariant-loop-i
invariant-loop-i l = record {
  inside : l.i ≤ length l.strings.items;
  strings : AreStringsTo l.cells l.strings.items l.i;
}
