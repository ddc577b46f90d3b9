use Rattle.pg_dict.specs.Inside.LentWords.{lent_word}
use Rattle.pg_driver.proofs.WordSteps.{signs_within}
use Rattle.pg_runs.proofs.plain.totals.Goals as goal

pub hyphenate-requires-clause-signs : goal.hyphenate-requires-clause-signs
hyphenate-requires-clause-signs g c = signs_within _ c.args.dictionary.now c.words.i (lent_word c.word-word.result) c.word-word.ensures.lent c.requires c.word-word.ensures.word
