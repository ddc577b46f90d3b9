use Rattle.std.proofs.Common.{◌≡◌, Bool, ℕ, ◌≤◌, ◌<◌, ◌+◌, ◌-◌, ◌++◌, true, List, [], fold, length, map, refl, sym, ap, subst, ◌∙◌, append-nil, append_assoc, arith}
use Rattle.std.specs.List.{flat_map}
use Rattle.pg_dict.specs.Inside.LentWords.{lent_word}
use Rattle.pg_dict.specs.Inside.SoundWords.{letter_count}
use Rattle.pg_dict.specs.Inside.Store.{all_signs}
use Rattle.pg_types.specs.Inside.counting.Counts.{Counts}
use Rattle.pg_select.specs.Inside.engine.Meanings.{with_position}
use Rattle.pg_starts.specs.declared.start_numbers.StartNumbers.{StartNumbers}
use Rattle.pg_starts.specs.Inside.Known.{windows_of}
use Rattle.pg_starts.specs.Inside.StartCountings.{counts_in, windows_in}
use Rattle.pg_select.specs.Inside.words.PositionLists.{counted_positions_at}
use Rattle.pg_driver.specs.declared.pass_windows.WordPosition.{WordPosition}
use Rattle.pg_driver.specs.Inside.counting.OpenLevels.{listed_in, open_as}
use Rattle.pg_driver.specs.Inside.level.PassWindows.{HaveNumbers, uncovered_at}
use Rattle.pg_driver.proofs.OpenSteps.{position_added}
use Rattle.pg_select.specs.Inside.laws.AboveLevel.{counts_above}
use Rattle.pg_driver.specs.Inside.counting.WordLevels.{listing}
use Rattle.pg_driver.proofs.WordLevels.{none_listed_in}
use Rattle.pg_select.specs.Statuses.{status_at, position_weight}
use Rattle.pg_types.specs.declared.limits.TheConstants.{WEIGHT_MAX}
use Rattle.pg_driver.specs.Inside.counting.Counting.{AreNumbersFor}
use Rattle.pg_select.specs.Inside.SumSteps.{with_mark, with_marks, sum_of}
use Rattle.pg_select.proofs.MarkSteps.{marks_none, marks_step, mark_took, weight_small}
use Rattle.pg_driver.proofs.Rooms.{room_left, took_less, took_none}
use Rattle.pg_driver.proofs.Walks.{position_step, room_on, counted_done, marks_done, listed_done}
use Rattle.pg_driver.proofs.WordSteps.{reach_few}
use Rattle.pg_driver.proofs.counting.words.count_word.Goals as goal

pub count_position-requires-clause-pass : goal.count_position-requires-clause-pass
count_position-requires-clause-pass g c = c.requires.pass

pub count_position-requires-clause-read : goal.count_position-requires-clause-read
count_position-requires-clause-read g c =
    record { word = c.requires.word; signs = c.requires.signs; values = c.hyphenate.ensures.values; covers = c.hyphenate.ensures.covers }

pub count_position-requires-clause-place : goal.count_position-requires-clause-place
count_position-requires-clause-place g c = c.requires.place

pub count_position-requires-clause-counting : goal.count_position-requires-clause-counting
count_position-requires-clause-counting g c = c.positions.invariant.counting

pub count_position-requires-clause-starts : goal.count_position-requires-clause-starts
count_position-requires-clause-starts g c =
    subst (AreNumbersFor c.args.dictionary.now c.args.pass.len (λ d s. true)) (sym c.positions.invariant.kept) c.requires.starts

pub count_position-requires-clause-room : goal.count_position-requires-clause-room
count_position-requires-clause-room g c = room_left _ _ _ _ 1 c.requires.room c.positions.invariant.took (omega (arith, c.positions-test.true, c.in-Some.ensures.few))

pub positions-preserved : goal.positions-preserved
positions-preserved g c =
    let m0 = g.E.Engine.meaning c.args.engine.now in
    let w = lent_word c.args.w.now in
    let pass = c.args.pass in
    let signs = all_signs c.args.dictionary.now in
    let cs : Counts = counts_in signs c.positions.counts in
    let ds : Counts = counts_in signs c.count_position.new.counts in
    let f : ℕ → List WordPosition = λ q. open_as c.args.word q (counts_above c.args.pass.level m0.patterns w q) in
    let within : c.positions.p < length w.signs = omega (arith, c.positions-test.true, c.in-Some.ensures.within) in
    let small : position_weight w c.positions.p ≤ WEIGHT_MAX = weight_small w c.positions.p c.requires.word within in
    let sums : c.count_position.new.sums ≡ with_mark c.positions.sums (status_at m0.patterns w c.positions.p) (position_weight w c.positions.p) = c.count_position.ensures.sums in
    let took : sum_of c.count_position.new.sums ≤ sum_of c.positions.sums + position_weight w c.positions.p =
    rw sums (mark_took c.positions.sums (status_at m0.patterns w c.positions.p) (position_weight w c.positions.p)) in
    let few : c.positions.p - c.in-Some.first + 1 ≤ letter_count w = omega (arith, c.positions-test.true, c.in-Some.ensures.few, c.positions.auto) in
    let on : c.positions.p + 1 - c.in-Some.first ≡ c.positions.p - c.in-Some.first + 1 = omega (arith, c.positions.auto) in
    record {
      kept = c.count_position.ensures.kept ∙ c.positions.invariant.kept;
      counting = c.count_position.ensures.counting;
      whole = position_step (counted_positions_at pass m0.patterns m0.hopeless w) cs ds _ c.positions.p c.in-Some.end c.positions-test.true c.count_position.ensures.ok c.positions.invariant.whole;
      few = omega arith;
      took = rw on (room_on pass m0.patterns m0.hopeless (counts_in signs c.args.counts.now) cs ds w c.positions.p (c.positions.p - c.in-Some.first) (letter_count w) c.requires.ranges.len_low
          c.requires.word within c.requires.room (omega arith) c.positions.invariant.took c.count_position.ensures.ok);
      sums = marks_step c.positions.sums _ _ m0.patterns w c.positions.p c.in-Some.end c.positions-test.true sums c.positions.invariant.sums;
      took_for = omega (arith, c.positions.invariant.took_for);
      listed = c.positions.invariant.listed ++ f c.positions.p;
      upto = position_added f c.positions.invariant.listed (c.positions.invariant.listed ++ f c.positions.p)
          (listed_in c.args.table.now (counts_above c.args.pass.level m0.patterns) c.args.word w) c.positions.p c.in-Some.end c.positions-test.true refl c.positions.invariant.upto;
      numbers = λ words entries at before.
          let same : c.count_position.new.counts.numbers ≡ c.args.counts.now.numbers = c.count_position.ensures.kept ∙ c.positions.invariant.kept in
          let now : HaveNumbers pass (uncovered_at pass m0.patterns m0.hopeless) words (windows_in signs c.count_position.new.counts) (entries ++ c.positions.invariant.listed) c.positions.numbers.items =
          subst (λ (n : StartNumbers). HaveNumbers pass (uncovered_at pass m0.patterns m0.hopeless) words (windows_of signs n) (entries ++ c.positions.invariant.listed) c.positions.numbers.items)
          (sym same) (c.positions.invariant.numbers words entries at before) in
          let then = c.in_ok-count_position.ensures.numbers words (entries ++ c.positions.invariant.listed) at now in
          subst (λ (n : StartNumbers). HaveNumbers pass (uncovered_at pass m0.patterns m0.hopeless) words (windows_of signs n) (entries ++ (c.positions.invariant.listed ++ f c.positions.p)) c.count_position.new.numbers.items)
          same
          (subst (λ (es : List WordPosition). HaveNumbers pass (uncovered_at pass m0.patterns m0.hopeless) words (windows_in signs c.count_position.new.counts) es c.count_position.new.numbers.items)
          (append_assoc entries c.positions.invariant.listed (f c.positions.p)) then);
    }

pub returns-in_ok-list_above-clause-above : goal.returns-in_ok-list_above-clause-above
returns-in_ok-list_above-clause-above g c =
    let P = (g.E.Engine.meaning c.args.engine.now).patterns in
    let w = lent_word c.args.w.now in
    c.in_ok-list_above.ensures P c.hyphenate.ensures.values
    ∙ ap (λ (lists : Bool). c.args.above.now.items ++ listed_in c.args.table.now (listing lists c.args.pass.level P) c.args.word w) (sym c.if-lists.true)

pub returns-else-lists-clause-above : goal.returns-else-lists-clause-above
returns-else-lists-clause-above g c =
    let P = (g.E.Engine.meaning c.args.engine.now).patterns in
    let w = lent_word c.args.w.now in
    let minima = c.args.table.now in
    sym (append-nil c.args.above.now.items)
    ∙ ap (λ (es : List WordPosition). c.args.above.now.items ++ es) (sym (none_listed_in minima c.args.pass.level P c.args.word w))
    ∙ ap (λ (lists : Bool). c.args.above.now.items ++ listed_in minima (listing lists c.args.pass.level P) c.args.word w) (sym c.if-lists.false)

pub returns-in_ok-list_above-clause-ok : goal.returns-in_ok-list_above-clause-ok
returns-in_ok-list_above-clause-ok g c =
    let m0 = g.E.Engine.meaning c.args.engine.now in
    counted_done (counts_in (all_signs c.args.dictionary.now) c.positions.counts) _ (counted_positions_at c.args.pass m0.patterns m0.hopeless (lent_word c.args.w.now)) c.positions.p
    c.in-Some.end c.positions-test.false c.positions.invariant.whole

pub returns-in_ok-list_above-clause-sums : goal.returns-in_ok-list_above-clause-sums
returns-in_ok-list_above-clause-sums g c =
    let m0 = g.E.Engine.meaning c.args.engine.now in
    marks_done c.positions.sums _ m0.patterns (lent_word c.args.w.now) c.positions.p c.in-Some.end c.positions-test.false c.positions.invariant.sums

pub returns-in_ok-list_above-clause-numbers : goal.returns-in_ok-list_above-clause-numbers
returns-in_ok-list_above-clause-numbers g c = λ words entries at before.
    let m0 = g.E.Engine.meaning c.args.engine.now in
    let pass = c.args.pass in
    let w = lent_word c.args.w.now in
    let signs = all_signs c.args.dictionary.now in
    let f : ℕ → List WordPosition = λ q. open_as c.args.word q (counts_above pass.level m0.patterns w q) in
    let all = listed_done f c.positions.invariant.listed (listed_in c.args.table.now (counts_above pass.level m0.patterns) c.args.word w)
    c.positions.p c.in-Some.end c.positions-test.false c.positions.invariant.upto in
    let same : c.positions.counts.numbers ≡ c.args.counts.now.numbers = c.positions.invariant.kept in
    subst (λ (n : StartNumbers). HaveNumbers pass (uncovered_at pass m0.patterns m0.hopeless) words (windows_of signs n)
    (entries ++ listed_in c.args.table.now (counts_above pass.level m0.patterns) c.args.word w) c.positions.numbers.items) (sym same)
    (subst (λ (es : List WordPosition). HaveNumbers pass (uncovered_at pass m0.patterns m0.hopeless) words (windows_of signs c.args.counts.now.numbers) (entries ++ es) c.positions.numbers.items) all
    (c.positions.invariant.numbers words entries at (subst (λ (n : StartNumbers). HaveNumbers pass (uncovered_at pass m0.patterns m0.hopeless) words (windows_of signs n) entries c.args.numbers.now.items) same before)))

pub returns-in_ok-list_above-clause-reached : goal.returns-in_ok-list_above-clause-reached
returns-in_ok-list_above-clause-reached g c = reach_few _ c.in-Some.first c.in-Some.end _ c.in-Some.ensures.some c.in-Some.ensures.few

pub returns-in_ok-list_above-clause-took : goal.returns-in_ok-list_above-clause-took
returns-in_ok-list_above-clause-took g c =
    let signs = all_signs c.args.dictionary.now in
    took_less (counts_in signs c.args.counts.now) (counts_in signs c.positions.counts) _ _ c.positions.invariant.few c.positions.invariant.took

pub returns-else-lists-clause-ok : goal.returns-else-lists-clause-ok
returns-else-lists-clause-ok g c =
    let m0 = g.E.Engine.meaning c.args.engine.now in
    counted_done (counts_in (all_signs c.args.dictionary.now) c.positions.counts) _ (counted_positions_at c.args.pass m0.patterns m0.hopeless (lent_word c.args.w.now)) c.positions.p
    c.in-Some.end c.positions-test.false c.positions.invariant.whole

pub returns-else-lists-clause-sums : goal.returns-else-lists-clause-sums
returns-else-lists-clause-sums g c =
    let m0 = g.E.Engine.meaning c.args.engine.now in
    marks_done c.positions.sums _ m0.patterns (lent_word c.args.w.now) c.positions.p c.in-Some.end c.positions-test.false c.positions.invariant.sums

pub returns-else-lists-clause-numbers : goal.returns-else-lists-clause-numbers
returns-else-lists-clause-numbers g c = λ words entries at before.
    let m0 = g.E.Engine.meaning c.args.engine.now in
    let pass = c.args.pass in
    let w = lent_word c.args.w.now in
    let signs = all_signs c.args.dictionary.now in
    let f : ℕ → List WordPosition = λ q. open_as c.args.word q (counts_above pass.level m0.patterns w q) in
    let all = listed_done f c.positions.invariant.listed (listed_in c.args.table.now (counts_above pass.level m0.patterns) c.args.word w)
    c.positions.p c.in-Some.end c.positions-test.false c.positions.invariant.upto in
    let same : c.positions.counts.numbers ≡ c.args.counts.now.numbers = c.positions.invariant.kept in
    subst (λ (n : StartNumbers). HaveNumbers pass (uncovered_at pass m0.patterns m0.hopeless) words (windows_of signs n)
    (entries ++ listed_in c.args.table.now (counts_above pass.level m0.patterns) c.args.word w) c.positions.numbers.items) (sym same)
    (subst (λ (es : List WordPosition). HaveNumbers pass (uncovered_at pass m0.patterns m0.hopeless) words (windows_of signs c.args.counts.now.numbers) (entries ++ es) c.positions.numbers.items) all
    (c.positions.invariant.numbers words entries at (subst (λ (n : StartNumbers). HaveNumbers pass (uncovered_at pass m0.patterns m0.hopeless) words (windows_of signs n) entries c.args.numbers.now.items) same before)))

pub returns-else-lists-clause-reached : goal.returns-else-lists-clause-reached
returns-else-lists-clause-reached g c = reach_few _ c.in-Some.first c.in-Some.end _ c.in-Some.ensures.some c.in-Some.ensures.few

pub returns-else-lists-clause-took : goal.returns-else-lists-clause-took
returns-else-lists-clause-took g c =
    let signs = all_signs c.args.dictionary.now in
    took_less (counts_in signs c.args.counts.now) (counts_in signs c.positions.counts) _ _ c.positions.invariant.few c.positions.invariant.took

pub count_position-requires-clause-ranges : goal.count_position-requires-clause-ranges
count_position-requires-clause-ranges g c = c.requires.ranges

pub list_above-requires : goal.list_above-requires
list_above-requires g c = c.requires.word

pub returns-in_default-clause-took_for : goal.returns-in_default-clause-took_for
returns-in_default-clause-took_for g c = omega arith

pub count_position-requires-clause-within : goal.count_position-requires-clause-within
count_position-requires-clause-within g c = omega (arith, c.positions-test.true, c.in-Some.ensures.within)

pub positions-init : goal.positions-init
positions-init g c =
    let m0 = g.E.Engine.meaning c.args.engine.now in
    let w = lent_word c.args.w.now in
    let signs = all_signs c.args.dictionary.now in
    let cs : Counts = counts_in signs c.args.counts.now in
    let reach = c.in-Some.ensures.some in
    record {
      kept = refl;
      counting = c.requires.counting;
      whole = ap (λ (ps : List ℕ). fold with_position cs (flat_map (counted_positions_at c.args.pass m0.patterns m0.hopeless w) ps)) (sym reach);
      few = omega arith;
      took = took_none cs (letter_count w) _ c.requires.room;
      sums = ap (λ (ps : List ℕ). with_marks c.args.sums.now (map (λ (q : ℕ). (status_at m0.patterns w q, position_weight w q)) ps)) (sym reach);
      took_for = omega arith;
      listed = [];
      upto = ap (λ (ps : List ℕ). flat_map (λ (p : ℕ). open_as c.args.word p (counts_above c.args.pass.level m0.patterns w p)) ps) (sym reach);
      numbers = λ words entries at before.
          subst (λ (es : List WordPosition). HaveNumbers c.args.pass (uncovered_at c.args.pass m0.patterns m0.hopeless) words (windows_in signs c.args.counts.now) es c.args.numbers.now.items)
          (sym (append-nil entries)) before;
    }

pub positions-requires : goal.positions-requires
positions-requires g c = c.requires.word

pub hyphenate-requires-clause-len : goal.hyphenate-requires-clause-len
hyphenate-requires-clause-len g c = c.requires.word.short

pub hyphenate-requires-clause-signs : goal.hyphenate-requires-clause-signs
hyphenate-requires-clause-signs g c = c.requires.signs

pub count_position-requires-clause-room_for : goal.count_position-requires-clause-room_for
count_position-requires-clause-room_for g c =
    omega (arith, c.positions.invariant.took_for, c.requires.room_for, c.positions-test.true, c.in-Some.ensures.few, c.positions.auto)

pub returns-in_ok-list_above-clause-took_for : goal.returns-in_ok-list_above-clause-took_for
returns-in_ok-list_above-clause-took_for g c = omega (arith, c.positions.invariant.took_for, c.positions.invariant.few)

pub returns-else-lists-clause-took_for : goal.returns-else-lists-clause-took_for
returns-else-lists-clause-took_for g c = omega (arith, c.positions.invariant.took_for, c.positions.invariant.few)

pub returns-in_default-clause-ok : goal.returns-in_default-clause-ok
returns-in_default-clause-ok g c =
    let m0 = g.E.Engine.meaning c.args.engine.now in
    let cs : Counts = counts_in (all_signs c.args.dictionary.now) c.args.counts.now in
    ap (λ (ps : List ℕ). fold with_position cs (flat_map (counted_positions_at c.args.pass m0.patterns m0.hopeless (lent_word c.args.w.now)) ps)) (sym c.in_default.ensures.none)

pub returns-in_default-clause-sums : goal.returns-in_default-clause-sums
returns-in_default-clause-sums g c =
    let P = (g.E.Engine.meaning c.args.engine.now).patterns in
    let w = lent_word c.args.w.now in
    sym (marks_none c.args.sums.now)
    ∙ ap (λ (ps : List ℕ). with_marks c.args.sums.now (map (λ (q : ℕ). (status_at P w q, position_weight w q)) ps)) (sym c.in_default.ensures.none)

pub returns-in_default-clause-above : goal.returns-in_default-clause-above
returns-in_default-clause-above g c =
    let P = (g.E.Engine.meaning c.args.engine.now).patterns in
    let f : ℕ → List WordPosition = λ q. open_as c.args.word q (listing c.args.lists c.args.pass.level P (lent_word c.args.w.now) q) in
    sym (append-nil c.args.above.now.items) ∙ ap (λ (ps : List ℕ). c.args.above.now.items ++ flat_map f ps) (sym c.in_default.ensures.none)

pub returns-in_default-clause-numbers : goal.returns-in_default-clause-numbers
returns-in_default-clause-numbers g c = λ words entries at before.
    let m0 = g.E.Engine.meaning c.args.engine.now in
    let pass = c.args.pass in
    let f : ℕ → List WordPosition = λ q. open_as c.args.word q (counts_above pass.level m0.patterns (lent_word c.args.w.now) q) in
    subst (λ (es : List WordPosition). HaveNumbers pass (uncovered_at pass m0.patterns m0.hopeless) words (windows_in (all_signs c.args.dictionary.now) c.args.counts.now) es c.args.numbers.now.items)
    (sym (append-nil entries) ∙ ap (λ (ps : List ℕ). entries ++ flat_map f ps) (sym c.in_default.ensures.none)) before

pub returns-in_default-clause-took : goal.returns-in_default-clause-took
returns-in_default-clause-took g c = took_none (counts_in (all_signs c.args.dictionary.now) c.args.counts.now) _ _ c.requires.room

pub returns-in_default-clause-reached : goal.returns-in_default-clause-reached
returns-in_default-clause-reached g c = omega (arith, ap (λ (ps : List ℕ). length ps) c.in_default.ensures.none)
