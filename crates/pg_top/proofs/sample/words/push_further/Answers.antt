use Rattle.pg_top.proofs.sample.SampleSteps.{syllable_more, state_more, syllables_begun, syllables_text, syllables_state}
use Rattle.std.proofs.Common.{◌++◌, ap}
use Rattle.pg_top.specs.Inside.MadeWords.{MadeText, further_syllables}
use Rattle.pg_top.proofs.sample.words.push_further.Goals as goal

pub syllables-preserved : goal.syllables-preserved
syllables-preserved c =
    let l = c.syllables in
    record {
      text = rw (c.in_ok-push_syllable.ensures.text, c.in_ok-push_syllable.ensures.state, c.in_ok-push.ensures.items)
          (syllable_more c.args.count l.i l.draws l.text.items (c.args.text.now.items ++ (further_syllables c.args.count c.args.draws.now).text) c.syllables-test.true l.invariant.text);
      state = rw c.in_ok-push_syllable.ensures.state (state_more c.args.count l.i l.draws (further_syllables c.args.count c.args.draws.now).state c.syllables-test.true l.invariant.state);
    }

pub syllables-init : goal.syllables-init
syllables-init c =
    let begun = syllables_begun c.args.count c.args.draws.now in
    record { text = ap (λ (m : MadeText). c.args.text.now.items ++ m.text) begun; state = ap (λ (m : MadeText). m.state) begun }

pub returns : goal.returns
returns c =
    let l = c.syllables in
    let whole = further_syllables c.args.count c.args.draws.now in
    record {
      text = syllables_text c.args.count l.i l.draws l.text.items (c.args.text.now.items ++ whole.text) c.syllables-test.false l.invariant.text;
      state = syllables_state c.args.count l.i l.draws whole.state c.syllables-test.false l.invariant.state;
    }
