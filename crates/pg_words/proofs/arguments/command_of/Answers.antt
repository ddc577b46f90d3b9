use Rattle.std.proofs.Common.{refl, sym}
use Rattle.pg_words.proofs.arguments.command_of.Goals as goal

pub returns-then-eq : goal.returns-then-eq
returns-then-eq c = record {
  value = rw (sym c.if-eq.ensures) c.generate.ensures.value;
  within = c.generate.ensures.within;
}

pub returns-then-eq-2 : goal.returns-then-eq-2
returns-then-eq-2 c = record {
  value = rw (sym c.if-eq.ensures, sym c.if-eq-2.ensures) c.audit.ensures.value;
  within = c.audit.ensures.within;
}

pub returns-then-eq-3 : goal.returns-then-eq-3
returns-then-eq-3 c = record {
  value = rw (sym c.if-eq.ensures, sym c.if-eq-2.ensures, sym c.if-eq-3.ensures) (λ taken. c.sample.ensures.value);
  within = c.sample.ensures.within;
}

pub returns-then-eq-4 : goal.returns-then-eq-4
returns-then-eq-4 c = record {
  value = rw (sym c.if-eq.ensures, sym c.if-eq-2.ensures, sym c.if-eq-3.ensures, sym c.if-eq-4.ensures) c.pack.ensures.value;
  within = c.pack.ensures.within;
}

pub returns-then-eq-5 : goal.returns-then-eq-5
returns-then-eq-5 c = record {
  value = rw (sym c.if-eq.ensures, sym c.if-eq-2.ensures, sym c.if-eq-3.ensures, sym c.if-eq-4.ensures, sym c.if-eq-5.ensures) c.totals.ensures.value;
  within = c.totals.ensures.within;
}

pub returns-then-eq-6 : goal.returns-then-eq-6
returns-then-eq-6 c = record {
  value = rw (sym c.if-eq.ensures, sym c.if-eq-2.ensures, sym c.if-eq-3.ensures, sym c.if-eq-4.ensures, sym c.if-eq-5.ensures, sym c.if-eq-6.ensures) c.prune.ensures.value;
  within = c.prune.ensures.within;
}

pub returns-then-eq-7 : goal.returns-then-eq-7
returns-then-eq-7 c = record {
  value = rw (sym c.if-eq.ensures, sym c.if-eq-2.ensures, sym c.if-eq-3.ensures, sym c.if-eq-4.ensures, sym c.if-eq-5.ensures, sym c.if-eq-6.ensures, sym c.if-eq-7.ensures) c.sweep.ensures.value;
  within = c.sweep.ensures.within;
}

pub returns-else-eq-7 : goal.returns-else-eq-7
returns-else-eq-7 c = record {
  value = rw (sym c.if-eq.ensures, sym c.if-eq-2.ensures, sym c.if-eq-3.ensures, sym c.if-eq-4.ensures, sym c.if-eq-5.ensures, sym c.if-eq-6.ensures, sym c.if-eq-7.ensures) (λ none. refl);
  within = tt;
}
