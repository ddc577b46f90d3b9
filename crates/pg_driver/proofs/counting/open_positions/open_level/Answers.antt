use Rattle.std.proofs.Common.{◌≡◌, ◌+◌, ◌-◌, ◌<◌, ◌≤◌, ℕ, List, [], Bool, Some, true, false, not, ◌&&◌, slice_get, drop, length, inl, inr, refl, ap, sym, ◌∙◌, arith}
use Rattle.std.specs.List.{flat_map}
use Rattle.std.proofs.lemmas.Bool.{cases_lt}
use Rattle.std.proofs.lemmas.List.{drop_all}
use Rattle.std.proofs.lemmas.Option.{slice_get_within}
use Rattle.pg_types.specs.declared.marks.Mark.{Mark}
use Rattle.pg_types.specs.declared.marks.Totals.{Totals}
use Rattle.pg_dots.specs.Inside.Dots.{is_closed, position_count}
use Rattle.pg_dots.specs.Inside.Positions.{is_among}
use Rattle.pg_dict.specs.Inside.LentWords.{lent_word}
use Rattle.pg_dict.specs.Word.{Word}
use Rattle.pg_select.specs.Inside.SumSteps.{marks_in, with_marks, sum_of}
use Rattle.pg_select.proofs.MarkSteps.{marks_none, marks_word, marks_zero}
use Rattle.pg_driver.specs.Inside.counting.OpenSigns.{is_open_first, start_of, takes_part}
use Rattle.pg_driver.proofs.OpenFirst.{cares_in, counts_in, opens_before, opens_behind}
use Rattle.pg_driver.proofs.OpenSigns.{sign_within, signs_few, start_before, start_next, start_past, start_zero}
use Rattle.pg_driver.proofs.WordSteps.{all_reached, drop_place, letters_left, reached_on, signs_within}
use Rattle.pg_driver.proofs.counting.open_positions.open_level.Goals as goal

pub open_word-requires-clause-signs : goal.open_word-requires-clause-signs
open_word-requires-clause-signs g c = signs_within _ c.args.dictionary.now c.words.i (lent_word c.word-w.result) c.word-w.ensures.lent c.requires c.word-w.ensures.word

pub open_word-requires-clause-room : goal.open_word-requires-clause-room
open_word-requires-clause-room g c = omega (arith, letters_left c.args.dictionary.now c.words.i (lent_word c.word-w.result) c.word-w.ensures.lent, c.words.invariant.room_for)

all_true : (b : Bool) → (b && true) ≡ b
all_true true = refl
all_true false = refl

pub words-preserved : goal.words-preserved
words-preserved g c =
    let P = (g.E.Engine.meaning c.args.engine.now).patterns in
    let minima = c.args.table.now in
    let words = c.args.dictionary.now in
    let w = lent_word c.word-w.result in
    let lent = c.word-w.ensures.lent in
    let before = c.words.opened in
    let inv = c.words.invariant in
    let start = c.words.before in
    let wide : position_count c.open_word.new.opened.dots ≡ position_count before.dots = c.open_word.ensures.size in
    let dots : (d s : ℕ) → s < position_count before.dots → is_closed c.open_word.new.opened.dots d s
    ≡ (not (is_open_first minima c.args.level P w (s - start)) && is_closed before.dots d s) = c.open_word.ensures.closed in
    let never : (s : ℕ) → s < position_count before.dots → is_among c.open_word.new.opened.never s ≡ (not (takes_part minima w (s - start)) && is_among before.never s) = c.open_word.ensures.never in
    record {
      size = omega (arith, inv.size);
      few = omega (arith, inv.few);
      none = c.open_word.ensures.none;
      starts = ap (λ k. k + length w.signs) inv.starts ∙ sym (start_next words c.words.i w lent);
      before = λ d n p v low at inside.
          let s = start_of words n + p in
          let lies : s < position_count before.dots = omega (arith, sign_within words n p v at inside, inv.size) in
          elim (cases_lt n c.words.i) [
            | inl earlier ↦
                dots d s lies
                ∙ opens_before minima w (counts_in c.args.level P w) start s (is_closed before.dots d s) (omega (arith, start_before words n c.words.i v at earlier, inv.starts))
                ∙ inv.before d n p v earlier at inside
            | inr from ↦
                let here : n ≡ c.words.i = omega arith in
                let both : Some v ≡ Some w = sym at ∙ ap (slice_get words) here ∙ lent in
                let same : w ≡ v = cc in
                let place : s - start ≡ p = (let begins = ap (start_of words) here in omega (arith, inv.starts)) in
                let behind : start ≤ s = (let begins = ap (start_of words) here in omega (arith, inv.starts)) in
                dots d s lies
                ∙ ap (λ b. not (is_open_first minima c.args.level P w (s - start)) && b) (inv.later d s behind lies)
                ∙ all_true (not (is_open_first minima c.args.level P w (s - start)))
                ∙ (λ k. not (is_open_first minima c.args.level P (same k) (place k)))
          ];
      later = λ d s from low.
          let lies : s < position_count before.dots = omega arith in
          dots d s lies ∙ opens_behind minima w (counts_in c.args.level P w) (s - start) (is_closed before.dots d s) (omega arith) ∙ inv.later d s (omega arith) lies;
      room = c.open_word.ensures.set_size ∙ sym wide;
      never_before = λ n p v low at inside.
          let s = start_of words n + p in
          let lies : s < position_count before.dots = omega (arith, sign_within words n p v at inside, inv.size) in
          elim (cases_lt n c.words.i) [
            | inl earlier ↦
                never s lies
                ∙ opens_before minima w (cares_in w) start s (is_among before.never s) (omega (arith, start_before words n c.words.i v at earlier, inv.starts))
                ∙ inv.never_before n p v earlier at inside
            | inr from ↦
                let here : n ≡ c.words.i = omega arith in
                let both : Some v ≡ Some w = sym at ∙ ap (slice_get words) here ∙ lent in
                let same : w ≡ v = cc in
                let place : s - start ≡ p = (let begins = ap (start_of words) here in omega (arith, inv.starts)) in
                let behind : start ≤ s = (let begins = ap (start_of words) here in omega (arith, inv.starts)) in
                never s lies
                ∙ ap (λ b. not (takes_part minima w (s - start)) && b) (inv.never_later s behind lies)
                ∙ all_true (not (takes_part minima w (s - start)))
                ∙ (λ k. not (takes_part minima (same k) (place k)))
          ];
      never_later = λ s from low.
          let lies : s < position_count before.dots = omega arith in
          never s lies ∙ opens_behind minima w (cares_in w) (s - start) (is_among before.never s) (omega arith) ∙ inv.never_later s (omega arith) lies;
      sums = marks_word before.totals _ _ minima P w (drop (c.words.i + 1) words) c.open_word.ensures.totals
          (ap (λ (ws : List Word). with_marks before.totals (flat_map (marks_in minima P) ws)) (sym (drop_place words c.words.i w lent)) ∙ inv.sums);
      reached = reached_on minima words c.words.i w lent c.open_word.ensures.reached inv.reached;
      room_for = omega (arith, letters_left words c.words.i w lent, inv.room_for, c.open_word.ensures.took);
    }

pub all_closed-requires : goal.all_closed-requires
all_closed-requires g c =
    let all = ap (λ (xs : List ℕ). length xs) c.all_signs-signs.ensures in
    omega (arith, signs_few c.args.dictionary.now c.len-count.ensures.words, c.len-count.ensures.letters)

pub words-init : goal.words-init
words-init g c =
    let all = ap (λ (xs : List ℕ). length xs) c.all_signs-signs.ensures in
    let few = signs_few c.args.dictionary.now c.len-count.ensures.words in
    let marks : List (Mark × ℕ) = flat_map (marks_in c.args.table.now (g.E.Engine.meaning c.args.engine.now).patterns) c.args.dictionary.now in
    record {
      size = omega (arith, c.in_ok-dots.ensures.size);
      few = omega (arith, c.in_ok-dots.ensures.few, c.len-count.ensures.letters);
      none = c.in_ok-dots.ensures.none;
      starts = start_zero c.args.dictionary.now;
      before = λ d n p w low at inside. absurd (omega arith);
      later = λ d s from low. c.in_ok-dots.ensures.closed d s low;
      room = c.in_ok-never.ensures.room;
      never_before = λ n p w low at inside. absurd (omega arith);
      never_later = λ s from low. c.in_ok-never.ensures.among s low;
      sums = ap (λ (t : Totals). with_marks t marks) c.no_totals.ensures ∙ marks_zero marks;
      reached = omega arith;
      room_for = omega (arith, ap sum_of c.no_totals.ensures, c.len-count.ensures.letters);
    }

pub open_word-requires-clause-within : goal.open_word-requires-clause-within
open_word-requires-clause-within g c =
    let w = lent_word c.word-w.result in
    let behind = start_before c.args.dictionary.now c.words.i (length c.args.dictionary.now) w c.word-w.ensures.lent (omega (arith, c.words-test.true, c.len-count.ensures.len)) in
    let whole = start_past c.args.dictionary.now (length c.args.dictionary.now) (omega arith) in
    omega (arith, behind, whole, c.words.invariant.starts, c.words.invariant.size)

pub overflow_add-before : goal.overflow_add-before
overflow_add-before g c =
    let w = lent_word c.word-w.result in
    let behind = start_before c.args.dictionary.now c.words.i (length c.args.dictionary.now) w c.word-w.ensures.lent (omega (arith, c.words-test.true, c.len-count.ensures.len)) in
    let whole = start_past c.args.dictionary.now (length c.args.dictionary.now) (omega arith) in
    omega (arith, behind, whole, c.words.invariant.starts, c.words.invariant.size, c.words.invariant.few)

pub returns-clause-bounded : goal.returns-clause-bounded
returns-clause-bounded g c = record {
  few = record { each = c.len-count.ensures.words; letters = c.len-count.ensures.letters };
  reached = all_reached c.args.table.now c.args.dictionary.now c.words.i (omega (arith, c.words-test.false, c.len-count.ensures.len)) c.words.invariant.reached;
}

pub open_word-requires-clause-set_size : goal.open_word-requires-clause-set_size
open_word-requires-clause-set_size g c = c.words.invariant.room

pub returns-clause-set_size : goal.returns-clause-set_size
returns-clause-set_size g c = c.words.invariant.room

pub returns-clause-never : goal.returns-clause-never
returns-clause-never g c = λ n p w at low. c.words.invariant.never_before n p w (let within = slice_get_within c.args.dictionary.now n w at in
    omega (arith, c.words-test.false, c.len-count.ensures.len)) at low

pub returns-clause-closed : goal.returns-clause-closed
returns-clause-closed g c = λ d n p w at low. c.words.invariant.before d n p w (let within = slice_get_within c.args.dictionary.now n w at in
    omega (arith, c.words-test.false, c.len-count.ensures.len)) at low

pub word-w-requires : goal.word-w-requires
word-w-requires g c = omega (arith, c.words-test.true, c.len-count.ensures.len)

pub open_word-requires-clause-word : goal.open_word-requires-clause-word
open_word-requires-clause-word g c = c.word-w.ensures.word

pub open_word-requires-clause-few : goal.open_word-requires-clause-few
open_word-requires-clause-few g c = c.words.invariant.few

pub open_word-requires-clause-none : goal.open_word-requires-clause-none
open_word-requires-clause-none g c = c.words.invariant.none

pub returns-clause-size : goal.returns-clause-size
returns-clause-size g c = c.words.invariant.size

pub returns-clause-totals : goal.returns-clause-totals
returns-clause-totals g c =
    let P = (g.E.Engine.meaning c.args.engine.now).patterns in
    let t = c.words.opened.totals in
    let none : drop c.words.i c.args.dictionary.now ≡ [] = drop_all c.words.i c.args.dictionary.now (omega (arith, c.words-test.false, c.len-count.ensures.len)) in
    sym (marks_none t) ∙ ap (λ (ws : List Word). with_marks t (flat_map (marks_in c.args.table.now P) ws)) (sym none) ∙ c.words.invariant.sums
