use Rattle.std.proofs.Common.{◌≡◌, ◌-◌, ◌++◌}
use Rattle.pg_top.specs.Inside.MadeWords.{lines_made}
use Rattle.pg_top.proofs.sample.words.sample_text.Given as goal

abbrev pub invariant-words : goal.invariant-words
invariant-words l = record {
  text : l.text.items ++ lines_made l.draws (l.count - l.i) ≡ lines_made l.seed l.count;
}
