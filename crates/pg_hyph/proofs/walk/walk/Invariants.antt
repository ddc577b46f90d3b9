use Rattle.pg_trie.specs.Inside.Lists.{outputs_at}
use Rattle.pg_select.specs.Inside.words.Positions.{values_of, covers_of}
use Rattle.pg_hyph.specs.Inside.ListValues.{value_by, cover_by}
use Rattle.pg_hyph.proofs.Loops.{AtStart}
use Rattle.pg_hyph.proofs.walk.walk.Given as goal

abbrev pub invariant-loop-start : goal.invariant-loop-start
invariant-loop-start l = record {
  values : AtStart value_by (outputs_at l.trie.patterns l.trie.hopeless) l.w l.start (values_of l.fn.out) (values_of l.out);
  covers : AtStart (cover_by l.pass) (outputs_at l.trie.patterns l.trie.hopeless) l.w l.start (covers_of l.fn.out) (covers_of l.out);
}
