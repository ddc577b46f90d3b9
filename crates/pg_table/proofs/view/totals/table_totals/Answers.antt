use Rattle.std.proofs.Common.{◌+◌, List, drop, ap, sym, ◌∙◌, arith}
use Rattle.std.specs.List.{flat_map}
use Rattle.pg_dict.specs.Inside.LentWords.{lent_word}
use Rattle.pg_dict.specs.Word.{Word}
use Rattle.pg_table.specs.Lookups.{table_value}
use Rattle.pg_table.specs.Inside.view.Marks.{table_marks}
use Rattle.pg_select.specs.Inside.SumSteps.{with_marks}
use Rattle.pg_table.proofs.view.MarkSteps.{marks_word}
use Rattle.pg_table.proofs.view.WordSteps.{drop_place, letters_left, signs_within}
use Rattle.pg_table.proofs.view.totals.table_totals.Goals as goal

pub values-requires-clause-word : goal.values-requires-clause-word
values-requires-clause-word c = c.word-w.ensures.word.short

pub values-requires-clause-signs : goal.values-requires-clause-signs
values-requires-clause-signs c = signs_within _ c.args.dictionary.now c.words.i (lent_word c.word-w.result) c.word-w.ensures.lent c.requires

pub add_marks-sums-requires-clause-word : goal.add_marks-sums-requires-clause-word
add_marks-sums-requires-clause-word c = c.word-w.ensures.word

pub add_marks-sums-requires-clause-room : goal.add_marks-sums-requires-clause-room
add_marks-sums-requires-clause-room c = omega (arith, letters_left c.args.dictionary.now c.words.i (lent_word c.word-w.result) c.word-w.ensures.lent, c.words.invariant.room_for)

pub words-preserved : goal.words-preserved
words-preserved c =
    let b = c.args.view.now in
    let minima = c.args.table.now in
    let w = lent_word c.word-w.result in
    let place = drop_place c.args.dictionary.now c.words.i w c.word-w.ensures.lent in
    record {
      sums = marks_word c.words.sums _ _ minima b w (drop (c.words.i + 1) c.args.dictionary.now) (c.add_marks-sums.ensures.value (table_value b w.signs) c.values.ensures.values)
          (ap (λ (ws : List Word). with_marks c.words.sums (flat_map (table_marks minima b) ws)) (sym place) ∙ c.words.invariant.sums);
      room_for = omega (arith, letters_left c.args.dictionary.now c.words.i w c.word-w.ensures.lent, c.words.invariant.room_for, c.add_marks-sums.ensures.took);
    }

pub returns-clause-small : goal.returns-clause-small
returns-clause-small c = omega (arith, c.words.invariant.room_for)
