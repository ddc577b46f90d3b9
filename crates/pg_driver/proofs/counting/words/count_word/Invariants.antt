use Rattle.std.proofs.Common.{◌≡◌, ℕ, ◌≤◌, ◌-◌, ◌++◌, List, fold}
use Rattle.std.specs.List.{flat_map, range_with_len}
use Rattle.pg_dict.specs.Inside.SoundWords.{letter_count}
use Rattle.pg_dict.specs.Inside.LentWords.{lent_word}
use Rattle.pg_dict.specs.Inside.Store.{all_signs}
use Rattle.pg_select.specs.Inside.words.PositionLists.{counted_positions_at}
use Rattle.pg_select.specs.Inside.engine.Meanings.{with_position}
use Rattle.pg_select.specs.Inside.words.WordCounts.{counted_positions_in}
use Rattle.pg_select.specs.Inside.laws.AboveLevel.{counts_above}
use Rattle.pg_starts.specs.Inside.StartCountings.{AreCounting, counts_in, windows_in}
use Rattle.pg_driver.specs.declared.pass_windows.WordPosition.{WordPosition}
use Rattle.pg_driver.specs.Inside.counting.OpenLevels.{listed_in, open_as}
use Rattle.pg_driver.specs.Inside.level.PassWindows.{NotesNumbers}
use Rattle.pg_select.specs.Inside.SumSteps.{marks_in, with_marks, TookRoomFor}
use Rattle.pg_driver.specs.Inside.counting.Counting.{TookRoom}
use Rattle.pg_select.proofs.MarkSteps.{marks_from}
use Rattle.pg_driver.proofs.counting.words.count_word.Given as goal

abbrev pub invariant-positions : goal.invariant-positions
invariant-positions g l =
    let m = g.E.Engine.meaning l.engine in
    let signs = all_signs l.dictionary in
    record {
      kept : l.counts.numbers ≡ l.fn.counts.numbers;
      counting : AreCounting signs l.counts;
      whole : fold with_position (counts_in signs l.counts) (flat_map (counted_positions_at l.pass m.patterns m.hopeless (lent_word l.w)) (range_with_len l.p (l.end - l.p)))
          ≡ fold with_position (counts_in signs l.fn.counts) (counted_positions_in l.table l.pass m.patterns m.hopeless (lent_word l.w));
      few : l.p - l.first ≤ letter_count (lent_word l.w);
      took : TookRoom (counts_in signs l.fn.counts) (counts_in signs l.counts) (l.p - l.first);
      sums : with_marks l.sums (marks_from m.patterns (lent_word l.w) l.p l.end) ≡ with_marks l.fn.sums (marks_in l.table m.patterns (lent_word l.w));
      took_for : TookRoomFor l.fn.sums l.sums (l.p - l.first);
      listed : List WordPosition;
      upto : (listed ++ flat_map (λ (p : ℕ). open_as l.word p (counts_above l.pass.level m.patterns (lent_word l.w) p)) (range_with_len l.p (l.end - l.p)))
          ≡ listed_in l.table (counts_above l.pass.level m.patterns) l.word (lent_word l.w);
      numbers : NotesNumbers l.pass l.word (lent_word l.w) m (windows_in signs l.fn.counts) listed l.fn.numbers.items l.numbers.items;
    }
