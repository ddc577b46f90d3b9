use Rattle.std.proofs.Common.{arith}
use Rattle.std.proofs.lemmas.Grind.{common_steps}
use Rattle.pg_prune.proofs.report.push_line.Goals as goal

pub text_of_entry-requires-clause-within : goal.text_of_entry-requires-clause-within
text_of_entry-requires-clause-within c = c.requires.within

pub text_of_entry-requires-clause-known : goal.text_of_entry-requires-clause-known
text_of_entry-requires-clause-known c = c.requires.known

pub returns : goal.returns
returns c = grind (arith, common_steps)
