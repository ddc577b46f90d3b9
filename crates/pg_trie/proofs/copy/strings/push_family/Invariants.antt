use Rattle.std.proofs.Common.{◌≡◌, ◌+◌, ◌-◌, ◌<◌, cond, nat_eq, true}
use Rattle.pg_cells.specs.Inside.linked.Members.{goes_on}
use Rattle.pg_trie.specs.Inside.Strings.{PutsBelow}
use Rattle.pg_trie.proofs.copy.strings.push_family.Given as goal

abbrev pub invariant-loop-s : goal.invariant-loop-s
invariant-loop-s l = record {
  small : l.s < 65536;
  goes : 0 < l.s → goes_on l.cells.values l.prefix l.s ≡ true;
  puts : PutsBelow l.cells l.prefix (cond (nat_eq l.s 0) (l.cells.signs + 1) l.s) l.fn.strings.items l.strings.items;
}

abbrev pub decreases-loop-s : goal.decreases-loop-s
decreases-loop-s l = cond (nat_eq l.s 0) 0 (65536 - l.s)
