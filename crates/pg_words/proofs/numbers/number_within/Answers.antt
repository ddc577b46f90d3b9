use Rattle.std.proofs.Common.{rules}
use Rattle.pg_words.proofs.numbers.number_within.Goals as goal

pub returns-else-number-least-clause-value : goal.returns-else-number-least-clause-value
returns-else-number-least-clause-value c = search rules
