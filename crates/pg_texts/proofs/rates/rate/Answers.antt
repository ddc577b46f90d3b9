use Rattle.std.proofs.Common.{rules}
use Rattle.pg_texts.proofs.rates.rate.Goals as goal

pub returns : goal.returns
returns c = search rules
