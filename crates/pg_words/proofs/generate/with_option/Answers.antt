use Rattle.std.proofs.Common.{refl, sym}
use Rattle.pg_words.proofs.generate.with_option.Goals as goal

pub returns-then-eq : goal.returns-then-eq
returns-then-eq c = rw (sym c.if-eq.ensures) refl

pub returns-then-eq-2 : goal.returns-then-eq-2
returns-then-eq-2 c = rw (sym c.if-eq.ensures, sym c.if-eq-2.ensures) refl

pub returns-else-eq-2 : goal.returns-else-eq-2
returns-else-eq-2 c = rw (sym c.if-eq.ensures, sym c.if-eq-2.ensures) refl
