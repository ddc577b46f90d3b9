use Rattle.std.proofs.Common.{◌≡◌, ℕ, ◌≤◌, ◌<◌, ◌+◌, ◌-◌, nat_lt, not, ◌&&◌}
use Rattle.pg_dots.specs.Inside.Dots.{is_closed, position_count}
use Rattle.pg_dots.specs.Inside.Positions.{is_among, positions_room}
use Rattle.pg_dict.specs.Inside.SoundWords.{letter_count}
use Rattle.pg_dict.specs.Inside.LentWords.{lent_word}
use Rattle.pg_select.specs.Inside.SumSteps.{marks_in, with_marks, TookRoomFor}
use Rattle.pg_driver.specs.Inside.counting.OpenSigns.{is_open_first, takes_part}
use Rattle.pg_select.proofs.MarkSteps.{marks_from}
use Rattle.pg_driver.proofs.counting.open_positions.open_word.Given as goal

abbrev pub invariant-positions : goal.invariant-positions
invariant-positions g l =
    let m = g.E.Engine.meaning l.engine in
    let w = lent_word l.w in
    record {
      size : position_count l.opened.dots ≡ position_count l.fn.opened.dots;
      none : l.opened.dots.reached ≡ 0;
      dots : (d s : ℕ) → s < position_count l.fn.opened.dots → is_closed l.opened.dots d s
          ≡ (not (nat_lt s (l.before + l.p) && is_open_first l.table l.level m.patterns w (s - l.before)) && is_closed l.fn.opened.dots d s);
      room : positions_room l.opened.never ≡ position_count l.fn.opened.dots;
      never : (s : ℕ) → s < position_count l.fn.opened.dots → is_among l.opened.never s
          ≡ (not (nat_lt s (l.before + l.p) && takes_part l.table w (s - l.before)) && is_among l.fn.opened.never s);
      sums : with_marks l.opened.totals (marks_from m.patterns w l.p l.end) ≡ with_marks l.fn.opened.totals (marks_in l.table m.patterns w);
      few : l.p - l.first ≤ letter_count w;
      took_for : TookRoomFor l.fn.opened.totals l.opened.totals (l.p - l.first);
    }
