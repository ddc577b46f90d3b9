use Rattle.std.proofs.Common.{◌≤◌, ◌+◌, ◌++◌, List, length, arith, ap, sym, ◌∙◌}
use Rattle.std.proofs.lemmas.List.{append-nil, drop_all}
use Rattle.std.proofs.lemmas.Result.{IfOk-from_err}
use Rattle.pg_dict.specs.Word.{Word}
use Rattle.pg_texts.specs.PattmpTexts.{lines_behind}
use Rattle.pg_texts.specs.Inside.ReadBack.{words_taking_part}
use Rattle.pg_dict.specs.Inside.LentWords.{lent_word}
use Rattle.pg_translate.specs.Alphabets.{letters_of}
use Rattle.pg_texts.proofs.WordSteps.{line_step, no_line_step, signs_known, signs_within}
use Rattle.pg_texts.proofs.pattmp.pattmp_text.Goals as goal
use Rattle.pg_texts.proofs.pattmp.pattmp_text.Goals.{in-Some+in_ok-push_weight+in_ok-push_word, in_default}

pub hyphenate-requires-clause-signs : goal.hyphenate-requires-clause-signs
hyphenate-requires-clause-signs g c =
    signs_within (g.E.Engine.meaning c.args.engine.now).signs (lent_word c.word-word.result) c.word-word.ensures.word
    (signs_known (g.E.Engine.meaning c.args.engine.now).signs c.args.dictionary.now c.words.i (lent_word c.word-word.result) c.requires.signs c.word-word.ensures.lent)

pub push_word-requires-clause-known : goal.push_word-requires-clause-known
push_word-requires-clause-known g c =
    signs_known (letters_of c.args.table.now + 1) c.args.dictionary.now c.words.i (lent_word c.word-word.result) c.requires.letters c.word-word.ensures.lent

pub words-preserved : goal.words-preserved
words-preserved g c =
    elim c.match-reach.branch [
      | in-Some+in_ok-push_weight+in_ok-push_word w ↦
          rw (w.text-is, w.weight-is) (
          line_step c.args.table.now (g.E.Engine.meaning c.args.engine.now).patterns c.args.dictionary.now c.words.i c.words.weight
          (lent_word c.word-word.result) w.in-Some.reach w.hyphenate.new.out.values
          c.words.text.items w.push_weight.new.text.items w.push_word.new.text.items _ c.word-word.ensures.lent (sym c.reach.ensures.value ∙ w.in-Some.is) c.word-word.ensures.word.long
          w.hyphenate.ensures.values w.in_ok-push_weight.ensures w.in_ok-push_word.ensures c.words.invariant)
      | in_default w ↦
          rw (w.text-is, w.weight-is) (
          no_line_step c.args.table.now (g.E.Engine.meaning c.args.engine.now).patterns c.args.dictionary.now c.words.i c.words.weight (lent_word c.word-word.result)
          c.words.text.items _ c.word-word.ensures.lent (sym c.reach.ensures.value ∙ w.in_default.is) c.words.invariant)
    ]

pub word-word-requires : goal.word-word-requires
word-word-requires g c = omega (arith, c.len-i-end.ensures.len)

pub returns-clause-text : goal.returns-clause-text
returns-clause-text g c =
    let t = c.args.table.now in
    let P = (g.E.Engine.meaning c.args.engine.now).patterns in
    let past : length c.args.dictionary.now ≤ c.words.i = omega (arith, c.len-i-end.ensures.len) in
    sym (append-nil c.words.text.items) ∙ ap (λ (ws : List Word). c.words.text.items ++ lines_behind t P c.words.weight (words_taking_part t ws)) (sym (drop_all c.words.i c.args.dictionary.now past))
    ∙ c.words.invariant

pub returns-in_err-push_weight-clause-text : goal.returns-in_err-push_weight-clause-text
returns-in_err-push_weight-clause-text g c = IfOk-from_err c.from_residual.result _ c.from_residual.ensures.0

pub returns-in_err-push_weight-clause-read_back : goal.returns-in_err-push_weight-clause-read_back
returns-in_err-push_weight-clause-read_back g c = IfOk-from_err c.from_residual.result _ c.from_residual.ensures.0

pub returns-in_err-push_word-clause-text : goal.returns-in_err-push_word-clause-text
returns-in_err-push_word-clause-text g c = IfOk-from_err c.from_residual-in_err-push_word.result _ c.from_residual-in_err-push_word.ensures.0

pub returns-in_err-push_word-clause-read_back : goal.returns-in_err-push_word-clause-read_back
returns-in_err-push_word-clause-read_back g c = IfOk-from_err c.from_residual-in_err-push_word.result _ c.from_residual-in_err-push_word.ensures.0
