use Rattle.pg_select.specs.Inside.words.Positions.{values_of}
use Rattle.pg_table.specs.Inside.view.Raising.{IsUncovered, by_table_starts}
use Rattle.pg_table.proofs.view.Levels.{Level}
use Rattle.pg_table.proofs.view.walks.walk.Given as goal

abbrev pub invariant-loop-start : goal.invariant-loop-start
invariant-loop-start l = record {
  values : Level (by_table_starts l.view l.w l.start) (by_table_starts l.view l.w 0) (values_of l.fn.out) (values_of l.out);
  uncovered : IsUncovered l.out;
}
