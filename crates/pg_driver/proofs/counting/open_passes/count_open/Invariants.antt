use Rattle.std.proofs.Common.{◌≡◌, ◌+◌, ◌-◌, ◌≤◌, ◌<◌, false, fold, length, map}
use Rattle.std.specs.List.{flat_map}
use Rattle.pg_dict.specs.Inside.Store.{all_signs}
use Rattle.pg_dots.specs.Inside.Dots.{HasWalk, is_closed, position_count}
use Rattle.pg_dots.specs.Inside.Walks.{IsAhead}
use Rattle.pg_select.specs.Inside.engine.Meanings.{with_position}
use Rattle.pg_starts.specs.Inside.StartCountings.{AreCounting, counts_in}
use Rattle.pg_driver.specs.Inside.counting.Counting.{HasRoom}
use Rattle.pg_driver.specs.Inside.counting.OpenPositions.{counted_of}
use Rattle.pg_driver.specs.Inside.counting.OpenSigns.{open_word_positions, open_signs, position_from, sign_count}
use Rattle.pg_driver.proofs.counting.open_passes.count_open.Given as goal

abbrev pub invariant-signs : goal.invariant-signs
invariant-signs l =
    let words = l.dictionary in
    let closed = is_closed l.dots l.pass.dot in
    record {
      kept : l.counts.numbers ≡ l.fn.counts.numbers;
      counting : AreCounting (all_signs words) l.counts;
      whole : fold with_position (counts_in (all_signs words) l.counts) (flat_map (counted_of l.pass words) (map (position_from 0 words) (open_signs closed l.next (sign_count words))))
          ≡ fold with_position (counts_in (all_signs words) l.fn.counts) (flat_map (counted_of l.pass words) (open_word_positions closed words));
      room : HasRoom (counts_in (all_signs words) l.counts) (length (open_signs closed l.next (sign_count words)));
      inside : l.next ≤ position_count l.dots;
      free : l.next < position_count l.dots → closed l.next ≡ false;
      at : HasWalk l.dots l.walk;
      ahead : l.next < position_count l.dots → IsAhead closed l.walk (l.next + 1);
    }

abbrev pub decreases-signs : goal.decreases-signs
decreases-signs l = l.end - l.next
