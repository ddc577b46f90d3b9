use Rattle.std.proofs.Common.{get_or}
use Rattle.pg_patterns.proofs.Sound.{entry_bounds, entry_at}
use Rattle.pg_patterns.proofs.text.entry_value_at.Goals as goal

pub returns-then-is_dotted-clause-low : goal.returns-then-is_dotted-clause-low
returns-then-is_dotted-clause-low c = (entry_bounds (get_or c.args.entries.now c.args.at c.index-entries-at-then-is_dotted.result)
    (entry_at c.args.entries.now c.args.at c.index-entries-at-then-is_dotted.result c.requires.sound c.if-at-entries.true)).high
