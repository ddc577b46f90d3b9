use Rattle.std.proofs.Common.{◌≤◌}
use Rattle.pg_table.specs.Forms.{sizes_of}
use Rattle.pg_table.specs.Inside.view.ListsOf.{list_in}
use Rattle.pg_select.specs.Inside.words.Positions.{values_of}
use Rattle.pg_table.specs.Inside.view.Raising.{IsUncovered, by_record_list}
use Rattle.pg_table.proofs.view.Levels.{Level}
use Rattle.pg_table.proofs.view.walks.take_list.Given as goal

abbrev pub invariant-loop-value : goal.invariant-loop-value
invariant-loop-value l = record {
  inside : l.at ≤ (sizes_of l.view).records;
  values : Level (by_record_list l.start l.len (list_in l.view l.at)) (by_record_list l.start l.len (list_in l.view l.head)) (values_of l.fn.out) (values_of l.out);
  uncovered : IsUncovered l.out;
}

abbrev pub decreases-loop-value : goal.decreases-loop-value
decreases-loop-value l = l.at
