use Rattle.std.proofs.Common.{refl}
use Rattle.std.proofs.lemmas.Bool.{le-leb, lt-leb}
use Rattle.pg_hyph.proofs.records.is_covering.Goals as goal

pub returns-then-is_high : goal.returns-then-is_high
returns-then-is_high c = rw (le-leb c.args.pass.now.level c.args.value c.if-is_high.true) c.has_within.ensures

pub returns-else-is_high : goal.returns-else-is_high
returns-else-is_high c = rw (lt-leb c.args.pass.now.level c.args.value c.if-is_high.false) refl
