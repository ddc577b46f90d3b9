use Rattle.std.proofs.Common.{rules}
use Rattle.pg_words.proofs.names.is_name.Goals as goal

pub returns-then-not-is_empty : goal.returns-then-not-is_empty
returns-then-not-is_empty c = search rules
