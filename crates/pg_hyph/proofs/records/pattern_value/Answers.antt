use Rattle.std.proofs.Common.{refl}
use Rattle.std.proofs.lemmas.Bool.{lt-ltb, le-ltb}
use Rattle.pg_trie.specs.declared.hopeless.TheConstants.{HOPELESS}
use Rattle.pg_hyph.proofs.records.pattern_value.Goals as goal

pub returns-then-value-lt-HOPELESS : goal.returns-then-value-lt-HOPELESS
returns-then-value-lt-HOPELESS c = rw (lt-ltb c.args.value HOPELESS c.if-value-lt-HOPELESS.true) refl

pub returns-else-value-lt-HOPELESS : goal.returns-else-value-lt-HOPELESS
returns-else-value-lt-HOPELESS c = rw (le-ltb c.args.value HOPELESS c.if-value-lt-HOPELESS.false) refl
