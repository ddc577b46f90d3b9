use Rattle.pg_dict.specs.Inside.LentWords.{lent_word}
use Rattle.pg_patterns.specs.Values.{value_at}
use Rattle.pg_driver.proofs.sums.add_word.Goals as goal

pub returns-clause-value : goal.returns-clause-value
returns-clause-value g c = c.add_marks.ensures.value (value_at (g.E.Engine.meaning c.args.engine.now).patterns (lent_word c.args.w.now).signs) c.hyphenate.ensures.values
