use Rattle.std.proofs.Common.{◌≡◌, ◌-◌, ◌++◌, sym, ap, ◌∙◌, append-nil, arith}
use Rattle.pg_top.specs.Inside.MadeWords.{lines_made}
use Rattle.pg_top.proofs.sample.MadeLines.{sample_lines_are}
use Rattle.pg_top.proofs.sample.SampleSteps.{word_more}
use Rattle.pg_top.proofs.sample.words.sample_text.Goals as goal

pub words-preserved : goal.words-preserved
words-preserved c =
    let l = c.words in
    record {
      text = rw (c.in_ok-push.ensures.items, c.in_ok-push_word.ensures.text, c.in_ok-push_word.ensures.state)
          (word_more c.args.count l.i l.draws l.text.items (lines_made c.args.seed c.args.count) c.words-test.true l.invariant.text);
    }

pub returns : goal.returns
returns c =
    let l = c.words in
    let none : c.args.count - l.i ≡ 0 = omega (arith, c.words-test.false) in
    sym (append-nil l.text.items) ∙ ap (λ n. l.text.items ++ lines_made l.draws n) (sym none) ∙ l.invariant.text ∙ sym (sample_lines_are c.args.seed c.args.count)
