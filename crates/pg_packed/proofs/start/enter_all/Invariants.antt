use Rattle.std.proofs.Common.{take}
use Rattle.pg_packed.specs.Inside.EnteredPatterns.{AreEntered}
use Rattle.pg_packed.proofs.start.enter_all.Given as goal

abbrev pub invariant-loop-i : goal.invariant-loop-i
invariant-loop-i l = AreEntered l.fn.signs (take l.i l.start) l.trie
