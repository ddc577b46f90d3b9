use Rattle.std.proofs.Common.{◌≡◌, ◌≤◌, ◌<◌, ◌+◌, ◌-◌, ℕ, true, false, not, ◌&&◌, nat_eq, length, is_some, List, map, refl, sym, ap, ◌∙◌, arith}
use Rattle.std.specs.List.{list_any, slice_index_or}
use Rattle.pg_types.specs.declared.limits.TheConstants.{WEIGHT_MAX}
use Rattle.pg_types.specs.declared.marks.Mark.{Mark}
use Rattle.pg_dict.specs.Inside.SoundWords.{letter_count}
use Rattle.pg_dict.specs.Inside.LentWords.{lent_word}
use Rattle.pg_dots.specs.Inside.Dots.{is_closed}
use Rattle.pg_dots.specs.Inside.Positions.{is_among}
use Rattle.pg_select.specs.CountedPositions.{counts_as}
use Rattle.pg_select.specs.Statuses.{status, status_at, position_weight}
use Rattle.pg_select.specs.Inside.SumSteps.{with_mark, with_marks, sum_of}
use Rattle.pg_patterns.specs.Values.{value_at}
use Rattle.pg_select.proofs.MarkSteps.{marks_none, marks_step, mark_took, weight_small}
use Rattle.pg_driver.specs.Inside.counting.OpenSigns.{has_care}
use Rattle.pg_driver.proofs.OpenFirst.{care_is, cares_in, counts_in, opens_first, opens_last, opens_next}
use Rattle.pg_driver.proofs.WordSteps.{reach_few}
use Rattle.pg_driver.proofs.Walks.{marks_done}
use Rattle.pg_driver.proofs.counting.open_positions.open_word.Goals as goal

pub positions-preserved : goal.positions-preserved
positions-preserved g c =
    let P = (g.E.Engine.meaning c.args.engine.now).patterns in
    let w = lent_word c.args.w.now in
    let m = c.args.table.now in
    let p = c.positions.p in
    let before = c.positions.opened in
    let within : p < length w.signs = omega (arith, c.positions-test.true, c.in-Some.ensures.within) in
    let small : position_weight w p ≤ WEIGHT_MAX = weight_small w p c.requires.word within in
    let mark : c.mark_at-mark.result ≡ status_at P w p = c.mark_at-mark.ensures
    ∙ ap (λ (v : ℕ). status (slice_index_or w.hyphens p false) (slice_index_or w.cares p true) v) (c.hyphenate.ensures.values p within) in
    let sums : c.add_mark-opened.result ≡ with_mark before.totals (status_at P w p) (position_weight w p) =
    c.add_mark-opened.ensures ∙ ap (λ (x : Mark). with_mark before.totals x (position_weight w p)) mark in
    let took : sum_of c.add_mark-opened.result ≤ sum_of before.totals + position_weight w p = rw sums (mark_took before.totals (status_at P w p) (position_weight w p)) in
    let few : p - c.in-Some.first + 1 ≤ letter_count w = omega (arith, c.positions-test.true, c.in-Some.ensures.few, c.positions.auto) in
    let on : p + 1 - c.in-Some.first ≡ p - c.in-Some.first + 1 = omega (arith, c.positions.auto) in
    record {
      size = c.open_by_status.ensures.size ∙ c.positions.invariant.size;
      none = c.open_by_status.ensures.none;
      dots = λ d s low.
          let s0 = c.args.before in
          c.open_by_status.ensures.closed d s (omega (arith, c.positions.invariant.size))
          ∙ ap (λ b. not (nat_eq s (s0 + p) && is_some (counts_as c.args.level c.mark_at-mark.result)) && b) (c.positions.invariant.dots d s low)
          ∙ opens_next m w (counts_in c.args.level P w) c.in-Some.first c.in-Some.end c.in-Some.ensures.some s0 p s (is_some (counts_as c.args.level c.mark_at-mark.result))
          (is_closed c.args.opened.now.dots d s) (omega (arith, c.positions.auto)) c.positions-test.true (ap (λ (x : Mark). is_some (counts_as c.args.level x)) mark);
      room = c.note_care.ensures.room ∙ c.positions.invariant.room;
      never = λ s low.
          let s0 = c.args.before in
          c.note_care.ensures.among s
          ∙ ap (λ b. not (nat_eq s (s0 + p) && has_care c.mark_at-mark.result) && b) (c.positions.invariant.never s low)
          ∙ opens_next m w (cares_in w) c.in-Some.first c.in-Some.end c.in-Some.ensures.some s0 p s (has_care c.mark_at-mark.result) (is_among c.args.opened.now.never s)
          (omega (arith, c.positions.auto))
          c.positions-test.true (ap has_care mark ∙ care_is P w p);
      sums = marks_step before.totals _ _ P w p c.in-Some.end c.positions-test.true sums c.positions.invariant.sums;
      few = omega arith;
      took_for = omega (arith, c.positions.invariant.took_for);
    }

pub positions-init : goal.positions-init
positions-init g c =
    let P = (g.E.Engine.meaning c.args.engine.now).patterns in
    let w = lent_word c.args.w.now in
    let m = c.args.table.now in
    let none : c.in-Some.first - c.in-Some.first ≡ 0 = omega arith in
    record {
      size = refl;
      none = c.requires.none;
      dots = λ d s low. opens_first m w (counts_in c.args.level P w) c.in-Some.first c.in-Some.end c.in-Some.ensures.some c.args.before s (is_closed c.args.opened.now.dots d s);
      room = c.requires.set_size;
      never = λ s low. opens_first m w (cares_in w) c.in-Some.first c.in-Some.end c.in-Some.ensures.some c.args.before s (is_among c.args.opened.now.never s);
      sums = ap (λ (ps : List ℕ). with_marks c.args.opened.now.totals (map
          (λ (q : ℕ). (status (slice_index_or w.hyphens q false) (slice_index_or w.cares q true) (value_at P w.signs q), position_weight w q)) ps)) (sym c.in-Some.ensures.some);
      few = omega arith;
      took_for = omega arith;
    }

pub returns-clause-reached : goal.returns-clause-reached
returns-clause-reached g c = reach_few _ c.in-Some.first c.in-Some.end _ c.in-Some.ensures.some c.in-Some.ensures.few

pub returns-clause-closed : goal.returns-clause-closed
returns-clause-closed g c = λ d s low.
    let P = (g.E.Engine.meaning c.args.engine.now).patterns in
    let w = lent_word c.args.w.now in
    let m = c.args.table.now in
    c.positions.invariant.dots d s low
    ∙ opens_last m w (counts_in c.args.level P w) c.in-Some.first c.in-Some.end c.in-Some.ensures.some c.args.before c.positions.p s (is_closed c.args.opened.now.dots d s)
    (omega (arith, c.positions.auto)) (omega (arith, c.positions-test.false))

pub returns-clause-never : goal.returns-clause-never
returns-clause-never g c = λ s low.
    let w = lent_word c.args.w.now in
    let m = c.args.table.now in
    c.positions.invariant.never s low
    ∙ opens_last m w (cares_in w) c.in-Some.first c.in-Some.end c.in-Some.ensures.some c.args.before c.positions.p s (is_among c.args.opened.now.never s)
    (omega (arith, c.positions.auto)) (omega (arith, c.positions-test.false))

pub note_care-requires : goal.note_care-requires
note_care-requires g c = omega (arith, c.positions-test.true, c.in-Some.ensures.within, c.requires.within, c.positions.invariant.room)

pub positions-requires : goal.positions-requires
positions-requires g c = c.requires.word

pub hyphenate-requires-clause-len : goal.hyphenate-requires-clause-len
hyphenate-requires-clause-len g c = c.requires.word.short

pub hyphenate-requires-clause-signs : goal.hyphenate-requires-clause-signs
hyphenate-requires-clause-signs g c = c.requires.signs

pub mark_at-mark-requires-clause-within : goal.mark_at-mark-requires-clause-within
mark_at-mark-requires-clause-within g c = omega (arith, c.positions-test.true, c.in-Some.ensures.within)

pub mark_at-mark-requires-clause-short : goal.mark_at-mark-requires-clause-short
mark_at-mark-requires-clause-short g c = c.requires.word.short

pub open_by_status-requires-clause-within : goal.open_by_status-requires-clause-within
open_by_status-requires-clause-within g c = omega (arith, c.positions-test.true, c.in-Some.ensures.within, c.requires.within, c.positions.invariant.size)

pub open_by_status-requires-clause-none : goal.open_by_status-requires-clause-none
open_by_status-requires-clause-none g c = c.positions.invariant.none

pub returns-clause-size : goal.returns-clause-size
returns-clause-size g c = c.positions.invariant.size

pub returns-clause-none : goal.returns-clause-none
returns-clause-none g c = c.positions.invariant.none

pub returns-clause-set_size : goal.returns-clause-set_size
returns-clause-set_size g c = c.positions.invariant.room

pub returns-clause-took : goal.returns-clause-took
returns-clause-took g c = omega (arith, c.positions.invariant.took_for, c.positions.invariant.few)

pub returns-clause-totals : goal.returns-clause-totals
returns-clause-totals g c =
    marks_done c.positions.opened.totals _ (g.E.Engine.meaning c.args.engine.now).patterns (lent_word c.args.w.now) c.positions.p c.in-Some.end c.positions-test.false c.positions.invariant.sums

pub add_mark-opened-requires : goal.add_mark-opened-requires
add_mark-opened-requires g c =
    let w = lent_word c.args.w.now in
    let within : c.positions.p < length w.signs = omega (arith, c.positions-test.true, c.in-Some.ensures.within) in
    omega (arith, weight_small w c.positions.p c.requires.word within, c.positions.invariant.took_for, c.requires.room, c.positions-test.true, c.in-Some.ensures.few, c.positions.auto)

pub returns-in_default-clause-totals : goal.returns-in_default-clause-totals
returns-in_default-clause-totals g c =
    let P = (g.E.Engine.meaning c.args.engine.now).patterns in
    let w = lent_word c.args.w.now in
    let t = c.args.opened.now.totals in
    sym (marks_none t) ∙ ap (λ (ps : List ℕ). with_marks t (map (λ (q : ℕ). (status_at P w q, position_weight w q)) ps)) (sym c.in_default.ensures.none)

pub returns-in_default-clause-closed : goal.returns-in_default-clause-closed
returns-in_default-clause-closed g c = λ d s low.
    let P = (g.E.Engine.meaning c.args.engine.now).patterns in
    let q = s - c.args.before in
    sym (ap (λ (ps : List ℕ). not (list_any (nat_eq q) ps && counts_in c.args.level P (lent_word c.args.w.now) q) && is_closed c.args.opened.now.dots d s) c.in_default.ensures.none)

pub returns-in_default-clause-never : goal.returns-in_default-clause-never
returns-in_default-clause-never g c = λ s low.
    let q = s - c.args.before in
    sym (ap (λ (ps : List ℕ). not (list_any (nat_eq q) ps && cares_in (lent_word c.args.w.now) q) && is_among c.args.opened.now.never s) c.in_default.ensures.none)

pub returns-in_default-clause-reached : goal.returns-in_default-clause-reached
returns-in_default-clause-reached g c = omega (arith, ap (λ (ps : List ℕ). length ps) c.in_default.ensures.none)

pub returns-in_default-clause-took : goal.returns-in_default-clause-took
returns-in_default-clause-took g c = omega arith
