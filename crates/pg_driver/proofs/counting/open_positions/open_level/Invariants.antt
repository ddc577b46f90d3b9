use Rattle.std.proofs.Common.{◌≡◌, ℕ, ◌≤◌, ◌<◌, ◌+◌, true, not, drop, length, slice_get, Some}
use Rattle.pg_types.specs.Inside.Limits.{positions_limit}
use Rattle.pg_dots.specs.Inside.Dots.{is_closed, position_count}
use Rattle.pg_dots.specs.Inside.Positions.{is_among, positions_room}
use Rattle.std.specs.List.{flat_map, sum_by}
use Rattle.pg_dict.specs.Word.{Word}
use Rattle.pg_dict.specs.Inside.SoundWords.{letter_count}
use Rattle.pg_select.specs.Sums.{totals}
use Rattle.pg_select.specs.Inside.SumSteps.{marks_in, with_marks, HasRoomFor}
use Rattle.pg_driver.specs.Inside.counting.OpenSigns.{is_open_first, sign_count, start_of, takes_part}
use Rattle.pg_driver.proofs.WordSteps.{AreReached}
use Rattle.pg_driver.proofs.counting.open_positions.open_level.Given as goal

abbrev pub invariant-words : goal.invariant-words
invariant-words g l =
    let P = (g.E.Engine.meaning l.engine).patterns in
    let minima = l.table in
    record {
      size : sign_count l.dictionary ≤ position_count l.opened.dots;
      few : position_count l.opened.dots < positions_limit;
      none : l.opened.dots.reached ≡ 0;
      starts : l.before ≡ start_of l.dictionary l.i;
      before : (d n p : ℕ) (w : Word) → n < l.i → slice_get l.dictionary n ≡ Some w → p < length w.signs → is_closed l.opened.dots d (start_of l.dictionary n + p)
          ≡ not (is_open_first minima l.level P w p);
      later : (d s : ℕ) → l.before ≤ s → s < position_count l.opened.dots → is_closed l.opened.dots d s ≡ true;
      room : positions_room l.opened.never ≡ position_count l.opened.dots;
      never_before : (n p : ℕ) (w : Word) → n < l.i → slice_get l.dictionary n ≡ Some w → p < length w.signs → is_among l.opened.never (start_of l.dictionary n + p) ≡ not (takes_part minima w p);
      never_later : (s : ℕ) → l.before ≤ s → s < position_count l.opened.dots → is_among l.opened.never s ≡ true;
      sums : with_marks l.opened.totals (flat_map (marks_in minima P) (drop l.i l.dictionary)) ≡ totals minima l.dictionary P;
      reached : AreReached minima l.dictionary l.i;
      room_for : HasRoomFor l.opened.totals (sum_by letter_count (drop l.i l.dictionary));
    }
