use Rattle.std.proofs.Common.{◌≡◌, drop}
use Rattle.std.specs.List.{flat_map, sum_by}
use Rattle.pg_dict.specs.Inside.SoundWords.{letter_count}
use Rattle.pg_select.specs.Sums.{totals}
use Rattle.pg_select.specs.Inside.SumSteps.{marks_in, with_marks, HasRoomFor}
use Rattle.pg_driver.proofs.sums.totals.Given as goal

abbrev pub invariant-words : goal.invariant-words
invariant-words g l =
    let m = g.E.Engine.meaning l.engine in
    record {
      sums : with_marks l.sums (flat_map (marks_in l.table m.patterns) (drop l.i l.dictionary)) ≡ totals l.table l.dictionary m.patterns;
      room_for : HasRoomFor l.sums (sum_by letter_count (drop l.i l.dictionary));
    }
