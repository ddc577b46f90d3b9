use Rattle.std.proofs.Common.{◌≡◌, ◌-◌, ◌++◌}
use Rattle.pg_top.specs.Inside.MadeWords.{further_syllables}
use Rattle.pg_top.proofs.sample.words.push_further.Given as goal

abbrev pub invariant-syllables : goal.invariant-syllables
invariant-syllables l = record {
  text : l.text.items ++ (further_syllables (l.count - l.i) l.draws).text ≡ l.fn.text.items ++ (further_syllables l.count l.fn.draws).text;
  state : (further_syllables (l.count - l.i) l.draws).state ≡ (further_syllables l.count l.fn.draws).state;
}
