use Rattle.std.proofs.Common.{◌≡◌, ◌++◌, List, [], drop, fold}
use Rattle.std.specs.List.{flat_map, sum_by}
use Rattle.pg_dict.specs.Inside.SoundWords.{letter_count}
use Rattle.pg_dict.specs.Inside.Store.{all_signs}
use Rattle.pg_select.specs.Inside.words.PositionLists.{counted_positions}
use Rattle.pg_select.specs.Inside.engine.Meanings.{with_position}
use Rattle.pg_select.specs.Sums.{totals}
use Rattle.pg_select.specs.Inside.SumSteps.{marks_in, with_marks, HasRoomFor}
use Rattle.pg_starts.specs.Inside.StartCountings.{AreCounting, counts_in, windows_in}
use Rattle.pg_driver.specs.Inside.counting.Counting.{HasRoom}
use Rattle.pg_driver.specs.Inside.counting.OpenLevels.{listed_from}
use Rattle.pg_driver.specs.Inside.counting.OpenSigns.{start_of}
use Rattle.pg_select.specs.Inside.laws.AboveLevel.{counts_above}
use Rattle.pg_driver.specs.declared.pass_windows.WordPosition.{WordPosition}
use Rattle.pg_driver.specs.Inside.level.PassWindows.{HaveNumbers, uncovered_at}
use Rattle.pg_driver.specs.Inside.counting.WordLevels.{listing}
use Rattle.pg_driver.proofs.WordSteps.{AreReached}
use Rattle.pg_driver.proofs.counting.words.count_words.Given as goal

abbrev pub invariant-words : goal.invariant-words
invariant-words g l =
    let m = g.E.Engine.meaning l.engine in
    let signs = all_signs l.dictionary in
    record {
      kept : l.counts.numbers ≡ l.fn.counts.numbers;
      counting : AreCounting signs l.counts;
      before : l.before ≡ start_of l.dictionary l.i;
      whole : fold with_position (counts_in signs l.counts) (counted_positions l.table (drop l.i l.dictionary) l.pass m.patterns m.hopeless)
          ≡ fold with_position [] (counted_positions l.table l.dictionary l.pass m.patterns m.hopeless);
      room : HasRoom (counts_in signs l.counts) (sum_by letter_count (drop l.i l.dictionary));
      sums : with_marks l.sums (flat_map (marks_in l.table m.patterns) (drop l.i l.dictionary)) ≡ totals l.table l.dictionary m.patterns;
      above : (l.above.items ++ listed_from l.table (listing l.lists l.pass.level m.patterns) l.i (drop l.i l.dictionary))
          ≡ (l.fn.above.items ++ listed_from l.table (listing l.lists l.pass.level m.patterns) 0 l.dictionary);
      reached : AreReached l.table l.dictionary l.i;
      room_for : HasRoomFor l.sums (sum_by letter_count (drop l.i l.dictionary));
      listed : List WordPosition;
      upto : (listed ++ listed_from l.table (counts_above l.pass.level m.patterns) l.i (drop l.i l.dictionary))
          ≡ listed_from l.table (counts_above l.pass.level m.patterns) 0 l.dictionary;
      numbers : HaveNumbers l.pass (uncovered_at l.pass m.patterns m.hopeless) l.dictionary (windows_in signs l.counts) listed l.numbers.items;
    }
