use Rattle.std.proofs.Common.{◌≡◌, ℕ, ◌+◌, List, [], drop, ap, sym, ◌∙◌, arith}
use Rattle.std.specs.List.{flat_map}
use Rattle.pg_dict.specs.Inside.LentWords.{lent_word}
use Rattle.pg_dict.specs.Word.{Word}
use Rattle.pg_select.specs.Inside.SumSteps.{marks_in, with_marks, sum_of}
use Rattle.pg_select.proofs.MarkSteps.{marks_none, marks_word, marks_zero}
use Rattle.pg_driver.proofs.WordSteps.{drop_place, letters_left, signs_within}
use Rattle.std.proofs.lemmas.List.{drop_all}
use Rattle.pg_types.specs.declared.marks.Mark.{Mark}
use Rattle.pg_types.specs.declared.marks.Totals.{Totals}
use Rattle.pg_driver.proofs.sums.totals.Goals as goal

pub add_word-sums-requires-clause-signs : goal.add_word-sums-requires-clause-signs
add_word-sums-requires-clause-signs g c = signs_within _ c.args.dictionary.now c.words.i (lent_word c.word.result) c.word.ensures.lent c.requires c.word.ensures.word

pub add_word-sums-requires-clause-room : goal.add_word-sums-requires-clause-room
add_word-sums-requires-clause-room g c = omega (arith, letters_left c.args.dictionary.now c.words.i (lent_word c.word.result) c.word.ensures.lent, c.words.invariant.room_for)

pub words-preserved : goal.words-preserved
words-preserved g c =
    let P = (g.E.Engine.meaning c.args.engine.now).patterns in
    let minima = c.args.table.now in
    let w = lent_word c.word.result in
    let place = drop_place c.args.dictionary.now c.words.i w c.word.ensures.lent in
    record {
      sums = marks_word c.words.sums _ _ minima P w (drop (c.words.i + 1) c.args.dictionary.now) c.add_word-sums.ensures.value
          (ap (λ (ws : List Word). with_marks c.words.sums (flat_map (marks_in minima P) ws)) (sym place) ∙ c.words.invariant.sums);
      room_for = omega (arith, letters_left c.args.dictionary.now c.words.i w c.word.ensures.lent, c.words.invariant.room_for, c.add_word-sums.ensures.took);
    }

pub word-requires : goal.word-requires
word-requires g c = omega (arith, c.words-test.true, c.len-i-end.ensures.len)

pub add_word-sums-requires-clause-word : goal.add_word-sums-requires-clause-word
add_word-sums-requires-clause-word g c = c.word.ensures.word

pub words-init : goal.words-init
words-init g c =
    let marks : List (Mark × ℕ) = flat_map (marks_in c.args.table.now (g.E.Engine.meaning c.args.engine.now).patterns) c.args.dictionary.now in
    record {
      sums = ap (λ (t : Totals). with_marks t marks) c.no_totals-sums.ensures ∙ marks_zero marks;
      room_for = omega (arith, ap sum_of c.no_totals-sums.ensures, c.len-i-end.ensures.letters);
    }

pub returns-clause-value : goal.returns-clause-value
returns-clause-value g c =
    let P = (g.E.Engine.meaning c.args.engine.now).patterns in
    let none : drop c.words.i c.args.dictionary.now ≡ [] = drop_all c.words.i c.args.dictionary.now (omega (arith, c.words-test.false, c.len-i-end.ensures.len)) in
    sym (marks_none c.words.sums)
    ∙ ap (λ (ws : List Word). with_marks c.words.sums (flat_map (marks_in c.args.table.now P) ws)) (sym none)
    ∙ c.words.invariant.sums

pub returns-clause-small : goal.returns-clause-small
returns-clause-small g c = omega (arith, c.words.invariant.room_for)
