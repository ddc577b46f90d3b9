use Rattle.std.proofs.Common.{◌≡◌, ◌+◌, ◌++◌, true, None, Some, List, [], drop, fold, length, refl, ap, subst, sym, ◌∙◌, arith}
use Rattle.std.specs.List.{flat_map, sum_by}
use Rattle.std.proofs.lemmas.List.{append-nil, drop_all}
use Rattle.pg_types.specs.declared.marks.Totals.{Totals}
use Rattle.pg_dict.specs.Inside.LentWords.{lent_word}
use Rattle.pg_dict.specs.Word.{Word}
use Rattle.pg_dict.specs.Inside.SoundWords.{letter_count}
use Rattle.pg_types.specs.Inside.counting.Counts.{Counts}
use Rattle.pg_dict.specs.Inside.Store.{all_signs}
use Rattle.pg_select.specs.Inside.engine.Meanings.{with_position}
use Rattle.pg_starts.specs.declared.start_numbers.StartNumbers.{StartNumbers}
use Rattle.pg_starts.specs.Inside.Known.{windows_of}
use Rattle.pg_starts.specs.Inside.StartCountings.{counts_in, windows_in}
use Rattle.pg_select.specs.Inside.words.PositionLists.{counted_positions}
use Rattle.pg_select.specs.Inside.words.WordCounts.{counted_positions_in}
use Rattle.pg_select.specs.Inside.SumSteps.{marks_in, with_marks, sum_of}
use Rattle.pg_driver.specs.Inside.counting.Counting.{AreNumbersFor, HasRoom}
use Rattle.pg_select.proofs.MarkSteps.{marks_none, marks_word, marks_zero}
use Rattle.pg_driver.specs.Inside.counting.OpenLevels.{listed_from, listed_in}
use Rattle.pg_select.specs.Inside.laws.AboveLevel.{counts_above}
use Rattle.pg_driver.specs.declared.pass_windows.WordPosition.{WordPosition}
use Rattle.pg_driver.specs.Inside.level.PassWindows.{HaveNumbers, uncovered_at}
use Rattle.pg_driver.specs.Inside.counting.WordLevels.{listing}
use Rattle.pg_driver.proofs.OpenSigns.{signs_few, start_before, start_next, start_past, start_zero}
use Rattle.pg_driver.proofs.OpenSteps.{few_words, word_added}
use Rattle.pg_driver.proofs.Rooms.{room_left, room_less, room_none}
use Rattle.pg_driver.proofs.Walks.{counted_step}
use Rattle.pg_driver.proofs.WordSteps.{all_reached, drop_place, letters_left, reached_on, signs_within}
use Rattle.pg_driver.proofs.counting.words.count_words.Goals as goal

pub overflow_cast-i : goal.overflow_cast-i
overflow_cast-i g c = omega (arith, few_words c.args.dictionary.now c.len-i-end.ensures.words, c.len-i-end.ensures.letters, c.len-i-end.ensures.len, c.words-test.true)

pub count_word-requires-clause-ranges : goal.count_word-requires-clause-ranges
count_word-requires-clause-ranges g c = c.requires.begun.ranges

pub count_word-requires-clause-pass : goal.count_word-requires-clause-pass
count_word-requires-clause-pass g c = c.requires.begun.begun

pub count_word-requires-clause-place : goal.count_word-requires-clause-place
count_word-requires-clause-place g c = record { number = c.words.i; there = c.word-w.ensures.lent; starts = c.words.invariant.before; few = omega (arith, signs_few c.args.dictionary.now c.len-i-end.ensures.words, c.len-i-end.ensures.letters) }

pub count_word-requires-clause-counting : goal.count_word-requires-clause-counting
count_word-requires-clause-counting g c = c.words.invariant.counting

pub count_word-requires-clause-starts : goal.count_word-requires-clause-starts
count_word-requires-clause-starts g c =
    subst (AreNumbersFor c.args.dictionary.now c.args.pass.len (λ d s. true)) (sym c.words.invariant.kept) c.requires.starts

pub count_word-requires-clause-signs : goal.count_word-requires-clause-signs
count_word-requires-clause-signs g c =
    signs_within _ c.args.dictionary.now c.words.i (lent_word c.word-w.result) c.word-w.ensures.lent c.requires.begun.signs c.word-w.ensures.word

pub count_word-requires-clause-room : goal.count_word-requires-clause-room
count_word-requires-clause-room g c = room_less _ _ _ c.words.invariant.room (omega (arith, letters_left c.args.dictionary.now c.words.i (lent_word c.word-w.result) c.word-w.ensures.lent))

pub overflow_add-before : goal.overflow_add-before
overflow_add-before g c =
    let words = c.args.dictionary.now in
    let w = lent_word c.word-w.result in
    let most = start_before words c.words.i (length words) w c.word-w.ensures.lent (omega (arith, c.words-test.true, c.len-i-end.ensures.len)) in
    let whole = start_past words (length words) (omega arith) in
    let few = signs_few words c.len-i-end.ensures.words in
    omega (arith, c.words.invariant.before, most, whole, few, c.len-i-end.ensures.letters)

pub count_word-requires-clause-room_for : goal.count_word-requires-clause-room_for
count_word-requires-clause-room_for g c = omega (arith, letters_left c.args.dictionary.now c.words.i (lent_word c.word-w.result) c.word-w.ensures.lent, c.words.invariant.room_for)

pub words-init : goal.words-init
words-init g c =
    let P = (g.E.Engine.meaning c.args.engine.now).patterns in
    let H = (g.E.Engine.meaning c.args.engine.now).hopeless in
    record {
      kept = refl;
      counting = c.requires.counting;
      before = start_zero c.args.dictionary.now;
      whole = ap (λ (cs : Counts). fold with_position cs (counted_positions c.args.table.now c.args.dictionary.now c.args.pass P H)) c.requires.fresh;
      room = subst (λ (cs : Counts). HasRoom cs (sum_by letter_count c.args.dictionary.now)) (sym c.requires.fresh)
          (room_none (sum_by letter_count c.args.dictionary.now) c.len-i-end.ensures.letters);
      sums = ap (λ (t : Totals). with_marks t (flat_map (marks_in c.args.table.now P) c.args.dictionary.now)) c.no_totals-sums.ensures
          ∙ marks_zero (flat_map (marks_in c.args.table.now P) c.args.dictionary.now);
      above = refl;
      reached = omega arith;
      room_for = omega (arith, ap sum_of c.no_totals-sums.ensures, c.len-i-end.ensures.letters);
      listed = [];
      upto = refl;
      numbers = record { size = ap length c.requires.none; each = λ k e n at to. absurd (let no : None ≡ Some e = at in cc) };
    }

pub returns-clause-bounded : goal.returns-clause-bounded
returns-clause-bounded g c = record {
  few = record { each = c.len-i-end.ensures.words; letters = c.len-i-end.ensures.letters };
  reached = all_reached c.args.table.now c.args.dictionary.now c.words.i (omega (arith, c.words-test.false, c.len-i-end.ensures.len)) c.words.invariant.reached;
}

pub words-preserved : goal.words-preserved
words-preserved g c =
    let m = g.E.Engine.meaning c.args.engine.now in
    let signs = all_signs c.args.dictionary.now in
    let cs : Counts = counts_in signs c.words.counts in
    let ds : Counts = counts_in signs c.count_word.new.counts in
    let pass = c.args.pass in
    let minima = c.args.table.now in
    let w = lent_word c.word-w.result in
    let rest = drop (c.words.i + 1) c.args.dictionary.now in
    let place = drop_place c.args.dictionary.now c.words.i w c.word-w.ensures.lent in
    let letters = letters_left c.args.dictionary.now c.words.i w c.word-w.ensures.lent in
    let here : List WordPosition = listed_in minima (counts_above pass.level m.patterns) c.words.i w in
    record {
      kept = c.count_word.ensures.kept ∙ c.words.invariant.kept;
      counting = c.count_word.ensures.counting;
      before = ap (λ k. k + length w.signs) c.words.invariant.before ∙ sym (start_next c.args.dictionary.now c.words.i w c.word-w.ensures.lent);
      whole = counted_step (counted_positions_in minima pass m.patterns m.hopeless) cs ds _ w rest c.in_ok-count_word.ensures.ok
          (ap (λ (ws : List Word). fold with_position cs (counted_positions minima ws pass m.patterns m.hopeless)) (sym place) ∙ c.words.invariant.whole);
      room = room_left cs ds (sum_by letter_count (drop c.words.i c.args.dictionary.now)) (letter_count w)
          (sum_by letter_count rest) c.words.invariant.room c.in_ok-count_word.ensures.took (omega (arith, letters));
      sums = marks_word c.words.sums _ _ minima m.patterns w rest c.in_ok-count_word.ensures.sums (ap (λ (ws : List Word). with_marks c.words.sums (flat_map (marks_in minima m.patterns) ws)) (sym place)
          ∙ c.words.invariant.sums);
      above =
          word_added minima (listing c.args.lists c.args.pass.level m.patterns) c.words.above.items c.count_word.new.above.items _ c.args.dictionary.now c.words.i w c.word-w.ensures.lent
          c.in_ok-count_word.ensures.above
          c.words.invariant.above;
      reached = reached_on minima c.args.dictionary.now c.words.i w c.word-w.ensures.lent c.in_ok-count_word.ensures.reached c.words.invariant.reached;
      room_for = omega (arith, letters, c.words.invariant.room_for, c.in_ok-count_word.ensures.took_for);
      listed = c.words.invariant.listed ++ here;
      upto = word_added minima (counts_above pass.level m.patterns) c.words.invariant.listed
          (c.words.invariant.listed ++ here) _ c.args.dictionary.now c.words.i w c.word-w.ensures.lent refl c.words.invariant.upto;
      numbers = c.in_ok-count_word.ensures.numbers c.args.dictionary.now c.words.invariant.listed c.word-w.ensures.lent
          (subst (λ (n : StartNumbers). HaveNumbers pass (uncovered_at pass m.patterns m.hopeless) c.args.dictionary.now (windows_of signs n) c.words.invariant.listed c.words.numbers.items)
          (sym c.count_word.ensures.kept) c.words.invariant.numbers);
    }

pub word-w-requires : goal.word-w-requires
word-w-requires g c = omega (arith, c.words-test.true)

pub count_word-requires-clause-word : goal.count_word-requires-clause-word
count_word-requires-clause-word g c = c.word-w.ensures.word

pub returns-clause-ok : goal.returns-clause-ok
returns-clause-ok g c =
    let m0 = g.E.Engine.meaning c.args.engine.now in
    let none : drop c.words.i c.args.dictionary.now ≡ [] = drop_all c.words.i c.args.dictionary.now (omega (arith, c.words-test.false, c.len-i-end.ensures.len)) in
    ap (λ (ws : List Word). fold with_position (counts_in (all_signs c.args.dictionary.now) c.words.counts) (counted_positions c.args.table.now ws c.args.pass m0.patterns m0.hopeless)) (sym none) ∙ c.words.invariant.whole

pub returns-clause-above : goal.returns-clause-above
returns-clause-above g c =
    let P = (g.E.Engine.meaning c.args.engine.now).patterns in
    let none : drop c.words.i c.args.dictionary.now ≡ [] = drop_all c.words.i c.args.dictionary.now (omega (arith, c.words-test.false, c.len-i-end.ensures.len)) in
    sym (append-nil c.words.above.items)
    ∙ ap (λ (ws : List Word). c.words.above.items ++ listed_from c.args.table.now (listing c.args.lists c.args.pass.level P) c.words.i ws) (sym none)
    ∙ c.words.invariant.above

pub returns-clause-numbers : goal.returns-clause-numbers
returns-clause-numbers g c =
    let m0 = g.E.Engine.meaning c.args.engine.now in
    let words = c.args.dictionary.now in
    let listed : List WordPosition = c.words.invariant.listed in
    let none : drop c.words.i words ≡ [] = drop_all c.words.i words (omega (arith, c.words-test.false, c.len-i-end.ensures.len)) in
    let all : listed ≡ listed_from c.args.table.now (counts_above c.args.pass.level m0.patterns) 0 words =
    sym (append-nil listed)
    ∙ ap (λ (ws : List Word). listed ++ listed_from c.args.table.now (counts_above c.args.pass.level m0.patterns) c.words.i ws) (sym none)
    ∙ c.words.invariant.upto in
    subst (λ (es : List WordPosition). HaveNumbers c.args.pass (uncovered_at c.args.pass m0.patterns m0.hopeless) words (windows_in (all_signs words) c.words.counts) es c.words.numbers.items) all c.words.invariant.numbers

pub returns-clause-room : goal.returns-clause-room
returns-clause-room g c =
    let none : drop c.words.i c.args.dictionary.now ≡ [] = drop_all c.words.i c.args.dictionary.now (omega (arith, c.words-test.false, c.len-i-end.ensures.len)) in
    subst (λ (ws : List Word). HasRoom (counts_in (all_signs c.args.dictionary.now) c.words.counts) (sum_by letter_count ws)) none c.words.invariant.room

pub returns-clause-totals : goal.returns-clause-totals
returns-clause-totals g c =
    let P = (g.E.Engine.meaning c.args.engine.now).patterns in
    let none : drop c.words.i c.args.dictionary.now ≡ [] = drop_all c.words.i c.args.dictionary.now (omega (arith, c.words-test.false, c.len-i-end.ensures.len)) in
    sym (marks_none c.words.sums)
    ∙ ap (λ (ws : List Word). with_marks c.words.sums (flat_map (marks_in c.args.table.now P) ws)) (sym none)
    ∙ c.words.invariant.sums

pub returns-clause-small : goal.returns-clause-small
returns-clause-small g c = omega (arith, c.words.invariant.room_for)
