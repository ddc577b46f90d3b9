use Rattle.std.proofs.Common.{◌≡◌}
use Rattle.pg_calls.proofs.trie.enter_all.Given as goal

abbrev pub invariant-loop-signs : goal.invariant-loop-signs
invariant-loop-signs l = l.trie.signs ≡ 4
