use Rattle.std.proofs.Common.{◌≤◌, length}
use Rattle.pg_outputs.specs.Lists.{list_of}
use Rattle.pg_select.specs.Inside.words.Positions.{values_of, covers_of}
use Rattle.pg_hyph.specs.Inside.ListValues.{value_by, cover_by}
use Rattle.pg_hyph.specs.Inside.Walks.{by_list}
use Rattle.pg_hyph.proofs.Loops.{Level}
use Rattle.pg_hyph.proofs.records.raise_by_list.Given as goal

abbrev pub invariant-loop-value : goal.invariant-loop-value
invariant-loop-value l = record {
  inside : l.at ≤ length l.outputs;
  values : Level (by_list (value_by l.len) l.start (list_of l.outputs l.at)) (by_list (value_by l.len) l.start (list_of l.outputs l.head)) (values_of l.fn.out) (values_of l.out);
  covers : Level (by_list (cover_by l.pass l.len) l.start (list_of l.outputs l.at)) (by_list (cover_by l.pass l.len) l.start (list_of l.outputs l.head)) (covers_of l.fn.out) (covers_of l.out);
}

abbrev pub decreases-loop-value : goal.decreases-loop-value
decreases-loop-value l = l.at
