use Rattle.std.proofs.Common.{◌-◌, Some, take, drop}
use Rattle.pg_trie.specs.Inside.Lists.{IsAt, outputs_at}
use Rattle.pg_select.specs.Inside.words.Positions.{values_of, covers_of}
use Rattle.pg_hyph.specs.Inside.ListValues.{value_by, cover_by}
use Rattle.pg_hyph.proofs.Loops.{AtStop}
use Rattle.pg_hyph.proofs.walk.raise_by_strings.Given as goal

abbrev pub invariant-loop-stop : goal.invariant-loop-stop
invariant-loop-stop l = record {
  at : IsAt l.trie.families (Some l.cell) (take (l.stop - l.start) (drop l.start l.w));
  values : AtStop value_by (outputs_at l.trie.patterns l.trie.hopeless) l.w l.start l.stop (values_of l.fn.out) (values_of l.out);
  covers : AtStop (cover_by l.pass) (outputs_at l.trie.patterns l.trie.hopeless) l.w l.start l.stop (covers_of l.fn.out) (covers_of l.out);
}
