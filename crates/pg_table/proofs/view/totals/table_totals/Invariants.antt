use Rattle.std.proofs.Common.{◌≡◌, drop}
use Rattle.std.specs.List.{flat_map, sum_by}
use Rattle.pg_dict.specs.Inside.SoundWords.{letter_count}
use Rattle.pg_table.specs.Lookups.{table_totals}
use Rattle.pg_table.specs.Inside.view.Marks.{table_marks}
use Rattle.pg_select.specs.Inside.SumSteps.{with_marks, HasRoomFor}
use Rattle.pg_table.proofs.view.totals.table_totals.Given as goal

abbrev pub invariant-words : goal.invariant-words
invariant-words l = record {
  sums : with_marks l.sums (flat_map (table_marks l.table l.view) (drop l.i l.dictionary)) ≡ table_totals l.table l.dictionary l.view;
  room_for : HasRoomFor l.sums (sum_by letter_count (drop l.i l.dictionary));
}
