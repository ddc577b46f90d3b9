use Rattle.std.proofs.Common.{◌∙◌}
use Rattle.pg_patterns.proofs.Kept.{joined-sorted}
use Rattle.pg_patterns.proofs.set.PatternSet.from_entries.Goals as goal

pub returns-clause-in_order : goal.returns-clause-in_order
returns-clause-in_order c = λ sorted. c.join.ensures.1 ∙ joined-sorted c.args.entries.items (record { sorted = sorted; sound = c.requires })
